-- What A2 and A3 withdraw of document 01's reading, and nothing else: a tree was accepted before exactly when it is accepted now, no user
-- feature lacks a capability bit (A2), and the container's strings are document 01's (A3); what is read is then as it was. What A3 changes
-- was 11 at the container. Assumes nothing.
use Prim.Native.Nat.{ℕ, zero, suc, ◌<◌}
use mathlib.Core.Path.{◌≡◌, refl, sym, ap, subst, ◌∙◌}
use mathlib.Core.Bool.{Bool, true, false, false≢true}
use mathlib.Core.List.{List, [], ◌∷◌, ◌++◌, map}
use mathlib.Core.Logic.{◌↔◌}
use Prim.Native.String.{String}
use native.Mathlib.Omega.{arith}
use lib.Dec.{leb}
use lib.ListN.{length}
use Rattle.refusal.specs.Refusal.{Fault, fault, Placed, placed, refuse_at}
use Rattle.refusal.specs.Checks.{Check, check, first_fault}
use Rattle.refusal.proofs.Checks.{Passes, passes-both, passes-join}
use Rattle.cells.specs.Bytes.{Each}
use Rattle.cells.specs.Rows.{padded}
use Rattle.characters.specs.Characters.{bytes}
use Rattle.strings.specs.Strings.{same_bytes}
use Rattle.strings.proofs.Strings.{same_true, same_refl}
use Rattle.stringlist.specs.StringList.{strings_bytes, AreStrings}
use Rattle.container.specs.Container.{ContainerType, short_type, ContainerCompatible, is_container_type, is_container_compatible}
use Rattle.container.proofs.Exactly.{type-exactly, compatible-exactly}
use Rattle.record.specs.declared.Record.{Record}
use Rattle.record.specs.Record.{most_features, slot_count, no_feature, no_features}
use Rattle.header.specs.Header.{blocks_of}
use Rattle.walk.specs.declared.Layout.{Layout}
use Rattle.walk.specs.Checked.{layout_of, check_tree}
use Rattle.walk.specs.Faults.{CheckEnds, answered, header_refused, walk_refused}
use Rattle.walk.proofs.CheckEnds.{check-ends}
use Rattle.nodes.specs.Nodes.{Node, node_at, children}
use Rattle.nodes.specs.Values.{Value, missing, value, value_of, bytes_of, is_cell, number}
use Rattle.reading.specs.Features.{in_order, feature_checks}
use Rattle.reading.specs.Dependencies.{Resolution, unknown, found, slots_of}
use Rattle.reading.specs.Reading.{container_properties, containers_of, read_checks, record_with, record_by, record_of, read_record}
use Rattle.reading.specs.Accepted.{container_of, features_of}
use Rattle.reading.proofs.Passed.{holds-true}
use Rattle.reading.proofs.Accepts.{true-holds}
use Rattle.reading.proofs.FeatureBefore.{HasCapability, feature_checks_before, then-now, now-then, feature_before, feature-before}
use Rattle.reading.proofs.ReadBy.{Rules, RulesNumbered, checks_by, read_by, accepted-parts, accepted-alike}

-- before A3: "each one string with its zero byte"
abbrev is_text : String → Value → Bool
is_text text missing = false
is_text text (value bs) = same_bytes bs (bytes text ++ 0 ∷ [])

abbrev pub properties_before : Node → List (Check Fault)
properties_before c =
    check (is_text "cpu-features" (value_of c "device_type")) (fault 11 c.at)
    ∷ check (is_text "ibm,powerpc-cpu-features" (value_of c "compatible")) (fault 11 c.at)
    ∷ check (is_cell (value_of c "isa")) (fault 11 c.at)
    ∷ []

-- before A2: the record as it was read
unfoldable pub record_before : Node → Record
record_before container = elim (slots_of (children container) (children container)) [
  | unknown ↦ no_features
  | found slots ↦ record {
    isa = number (value_of container "isa");
    count = length (children container);
    features = padded most_features no_feature (map feature_before (children container));
    slots = padded slot_count 0 slots;
  }
]

-- the rules of now, those before A3, and those before A2
abbrev rules_now : Rules
rules_now = record { properties = container_properties; features = feature_checks; record_read = record_of }

abbrev rules_before_strings : Rules
rules_before_strings = record { properties = properties_before; features = feature_checks; record_read = record_of }

abbrev rules_before : Rules
rules_before = record { properties = properties_before; features = feature_checks_before; record_read = record_before }

unfoldable pub read_before_strings : List ℕ → Placed Record
read_before_strings tree = read_by rules_before_strings tree (check_tree tree)

unfoldable pub read_before : List ℕ → Placed Record
read_before tree = read_by rules_before tree (check_tree tree)

numbered-now : RulesNumbered rules_now
unfolding feature_checks
numbered-now = record { properties = λ c. omega arith; features = λ before n. omega arith }

numbered-strings : RulesNumbered rules_before_strings
unfolding feature_checks
numbered-strings = record { properties = λ c. omega arith; features = λ before n. omega arith }

numbered-then : RulesNumbered rules_before
numbered-then = record { properties = λ c. omega arith; features = λ before n. omega arith }

-- A3: the container's strings are document 01's
pub record OneString (c : Node) : Type 0 where
  pub device_type : bytes_of (value_of c "device_type") ≡ bytes "cpu-features" ++ 0 ∷ []
  pub compatible : bytes_of (value_of c "compatible") ≡ bytes "ibm,powerpc-cpu-features" ++ 0 ∷ []

text-exactly : (text : String) (v : Value) → (0 < length (bytes text ++ 0 ∷ [])) → (is_text text v ≡ true) ↔ (bytes_of v ≡ bytes text ++ 0 ∷ [])
text-exactly text missing l = (λ h. absurd (false≢true h), λ e. let z = ap length e in absurd (omega arith))
text-exactly text (value bs) l = (same_true bs (bytes text ++ 0 ∷ []), λ e. rw e (same_refl (bytes text ++ 0 ∷ [])))

alone : AreStrings (bytes "ibm,powerpc-cpu-features" ++ 0 ∷ []) (bytes "ibm,powerpc-cpu-features" ∷ [])
unfolding strings_bytes
alone = record { bytes = refl; plain = (omega arith, tt) }

module _ (c : Node) where
  strings-then : Passes (properties_before c) → OneString c
  strings-then p = record {
    device_type = (text-exactly "cpu-features" (value_of c "device_type") (omega arith)).0 (holds-true _ p.0);
    compatible = (text-exactly "ibm,powerpc-cpu-features" (value_of c "compatible") (omega arith)).0 (holds-true _ p.1.0);
  }

  type-now : is_text "cpu-features" (value_of c "device_type") ≡ true → is_container_type (bytes_of (value_of c "device_type")) ≡ true
  type-now h =
      let e = (text-exactly "cpu-features" (value_of c "device_type") (omega arith)).0 h in
      (type-exactly (bytes_of (value_of c "device_type"))).1 (subst ContainerType (sym e) short_type)

  compatible-now : is_text "ibm,powerpc-cpu-features" (value_of c "compatible") ≡ true → is_container_compatible (bytes_of (value_of c "compatible")) ≡ true
  compatible-now h =
      let e = (text-exactly "ibm,powerpc-cpu-features" (value_of c "compatible") (omega arith)).0 h in
      let one : ContainerCompatible (bytes "ibm,powerpc-cpu-features" ++ 0 ∷ []) = record { before = []; after = []; strings = alone } in
      (compatible-exactly (bytes_of (value_of c "compatible"))).1 (subst ContainerCompatible (sym e) one)

  properties-now : Passes (properties_before c) → Passes (container_properties c)
  properties-now p = (true-holds (type-now (holds-true _ p.0)), (true-holds (compatible-now (holds-true _ p.1.0)), p.1.1))

  properties-then : Passes (container_properties c) → OneString c → Passes (properties_before c)
  properties-then p s = (
    true-holds ((text-exactly "cpu-features" (value_of c "device_type") (omega arith)).1 s.device_type),
    (true-holds ((text-exactly "ibm,powerpc-cpu-features" (value_of c "compatible") (omega arith)).1 s.compatible), p.1.1),
  )

-- A2: the checks of all features, then and now
order-then : (before ns : List Node) → Passes (in_order feature_checks_before before ns) → Passes (in_order feature_checks before ns) × Each HasCapability ns
unfolding in_order
order-then before [] p = (tt, tt)
order-then before (n ∷ ns) p =
    let q = passes-both (feature_checks_before before n) (in_order feature_checks_before (before ++ n ∷ []) ns) p in
    let here = then-now before n q.0 in
    let more = order-then (before ++ n ∷ []) ns q.1 in
    (passes-join (feature_checks before n) (in_order feature_checks (before ++ n ∷ []) ns) here.0 more.0, (here.1, more.1))

order-now : (before ns : List Node) → Passes (in_order feature_checks before ns) → Each HasCapability ns → Passes (in_order feature_checks_before before ns)
unfolding in_order
order-now before [] p h = tt
order-now before (n ∷ ns) p h =
    let q = passes-both (feature_checks before n) (in_order feature_checks (before ++ n ∷ []) ns) p in
    passes-join (feature_checks_before before n) (in_order feature_checks_before (before ++ n ∷ []) ns) (now-then before n q.0 h.0)
    (order-now (before ++ n ∷ []) ns q.1 h.1)

record-before : (c : Node) → record_of c ≡ record_before c
unfolding record_of record_before record_with
record-before c = go (slots_of (children c) (children c))
  where
    go : (x : Resolution) → record_by c x
        ≡ (elim x as (λ _. Record) [
          | unknown ↦ no_features
          | found slots ↦ record {
            isa = number (value_of c "isa");
            count = length (children c);
            features = padded most_features no_feature (map feature_before (children c));
            slots = padded slot_count 0 slots;
          }
        ])
    go unknown = refl
    go (found slots) = λ k. record {
      isa = number (value_of c "isa");
      count = length (children c);
      features = padded most_features no_feature (map (λ (n : Node). feature-before n k) (children c));
      slots = padded slot_count 0 slots;
    }

-- A3: checks that do not find 11 at the container find what they found
module _ (start : ℕ) (containers : List Node) (r : Placed Record) where
  abbrev container : Node
  container = node_at containers 0

  abbrev judged : Rules → Placed Record
  judged rules = first_fault (refuse_at no_features) (checks_by rules start containers) r

  same-checks : (judged rules_before_strings ≡ refuse_at no_features (fault 11 container.at) → ⊥) → judged rules_now ≡ judged rules_before_strings
  unfolding first_fault
  same-checks n =
      go (leb 1 (length containers)) refl (leb (length containers) 1) refl
      (is_text "cpu-features" (value_of container "device_type")) refl (is_text "ibm,powerpc-cpu-features" (value_of container "compatible")) refl
    where
      go : (p : Bool) → leb 1 (length containers) ≡ p → (q : Bool) → leb (length containers) 1 ≡ q
          → (d : Bool) → is_text "cpu-features" (value_of container "device_type") ≡ d
          → (g : Bool) → is_text "ibm,powerpc-cpu-features" (value_of container "compatible") ≡ g → judged rules_now ≡ judged rules_before_strings
      go false e q k d f g h = rw e
      go true e false k d f g h = rw (e, k)
      go true e true k false f g h = absurd (n (rw (e, k, f)))
      go true e true k true f false h = absurd (n (rw (e, k, f, h)))
      go true e true k true f true h = rw (e, k, f, h, type-now container f, compatible-now container h)

module _ (tree : List ℕ) where
  abbrev number_read : Placed Record → ℕ
  number_read r = r.number

  now : read_record tree ≡ read_by rules_now tree (check_tree tree)
  unfolding read_record read_checks
  now = refl

  -- A3: what was not refused with 11 at the container is answered as it was
  after-walk : {x : Placed Layout} → CheckEnds tree x
      → (read_by rules_before_strings tree x ≡ refuse_at no_features (fault 11 (container_of tree).at) → ⊥) → read_by rules_now tree x ≡ read_by rules_before_strings tree x
  unfolding layout_of
  after-walk (answered h w) n = same-checks (blocks_of tree).start (containers_of tree (blocks_of tree)) (placed (record_of (container_of tree))) n
  after-walk (header_refused {number = zero} h l m q) n = absurd (omega arith)
  after-walk (header_refused {number = suc k} h l m q) n = refl
  after-walk (walk_refused {number = zero} h f) n = absurd (omega (arith, f.least))
  after-walk (walk_refused {number = suc k} h f) n = refl

  pub same-unless-11 : (read_before_strings tree ≡ refuse_at no_features (fault 11 (container_of tree).at) → ⊥) → read_record tree ≡ read_before_strings tree
  unfolding read_before_strings
  same-unless-11 n = now ∙ after-walk (check-ends tree) n

  -- so what was accepted is accepted, with the same record
  pub read-before-strings : (read_before_strings tree).number ≡ 0 → read_record tree ≡ read_before_strings tree
  read-before-strings z = same-unless-11 (λ e. let k : ◌≡◌ {A = ℕ} 0 11 = sym z ∙ ap number_read e in omega arith)

  back-strings : (read_record tree).number ≡ 0 → OneString (container_of tree) → (read_before_strings tree).number ≡ 0
  unfolding read_before_strings
  back-strings z s =
      let y = ap number_read (sym now) ∙ z in
      let p = accepted-parts tree rules_now numbered-now y in
      ap number_read (accepted-alike tree rules_now numbered-now y rules_before_strings (properties-then (container_of tree) p.properties_hold s) p.features_hold refl) ∙ y

  one-string : (read_before_strings tree).number ≡ 0 → OneString (container_of tree)
  unfolding read_before_strings
  one-string z = strings-then (container_of tree) (accepted-parts tree rules_before_strings numbered-strings z).properties_hold

  pub accepted-before-strings : (read_before_strings tree).number ≡ 0 ↔ (((read_record tree).number ≡ 0) × OneString (container_of tree))
  accepted-before-strings = (λ z. (ap number_read (read-before-strings z) ∙ z, one-string z), λ h. back-strings h.0 h.1)

  -- A2 and A3: the same
  pub read-before : (read_before tree).number ≡ 0 → read_record tree ≡ read_before tree
  unfolding read_before
  read-before z =
      let p = accepted-parts tree rules_before numbered-then z in
      now
      ∙ accepted-alike tree rules_before numbered-then z rules_now (properties-now (container_of tree) p.properties_hold) (order-then [] (features_of tree) p.features_hold).0
      (record-before (container_of tree))

  back-then : (read_record tree).number ≡ 0 → Each HasCapability (features_of tree) → OneString (container_of tree) → (read_before tree).number ≡ 0
  unfolding read_before
  back-then z has s =
      let y = ap number_read (sym now) ∙ z in
      let p = accepted-parts tree rules_now numbered-now y in
      ap number_read (
      accepted-alike tree rules_now numbered-now y rules_before (properties-then (container_of tree) p.properties_hold s) (order-now [] (features_of tree) p.features_hold has)
      (sym (record-before (container_of tree)))
      )
      ∙ y

  as-then : (read_before tree).number ≡ 0 → Each HasCapability (features_of tree) × OneString (container_of tree)
  unfolding read_before
  as-then z =
      let p = accepted-parts tree rules_before numbered-then z in
      ((order-then [] (features_of tree) p.features_hold).1, strings-then (container_of tree) p.properties_hold)

  pub accepted-before : (read_before tree).number ≡ 0 ↔ (((read_record tree).number ≡ 0) × Each HasCapability (features_of tree) × OneString (container_of tree))
  accepted-before =
      (λ z. (ap number_read (read-before z) ∙ z, (as-then z).0, (as-then z).1), λ h. back-then h.0 h.1 h.2)
