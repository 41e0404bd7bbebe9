-- The reading of an accepted tree, by what the walk noted: which check decides. Assumes nothing.
use mathlib.Core.Path.{◌≡◌, refl, sym, ap, ◌∙◌}
use mathlib.Core.List.{List, [], ◌∷◌, ◌++◌, append_assoc}
use Prim.Native.Nat.{ℕ, zero, suc, ◌+◌, ◌<◌, ◌≤◌, min}
use native.Mathlib.Omega.{arith}
use borrow.Author.Tests.{le-leb, lt-leb}
use lib.ListN.{length, get_or}
use Rattle.strings.specs.Strings.{text_at}
use borrow.Author.Rules.{rules}
use Rattle.std.specs.Prelude.{Option, None, Some, Ok, Err, unwrap_or}
use Rattle.std.specs.Option.{IsSome}
use Rattle.refusal.specs.declared.Refusal.{Refusal}
use Rattle.refusal.specs.Refusal.{Fault, number_of, Placed, placed, refuse_at, fault}
use Rattle.refusal.specs.Checks.{Check, first_fault}
use Rattle.header.specs.declared.Blocks.{Blocks}
use Rattle.header.specs.Header.{largest_tree}
use Rattle.record.specs.declared.Record.{Record}
use Rattle.record.specs.Record.{no_features}
use Rattle.walk.specs.declared.Containers.{Containers}
use Rattle.walk.specs.Containers.{first_two}
use Rattle.nodes.specs.Nodes.{Node, node_at, children}
use Rattle.reading.specs.Features.{in_order, name_checks, feature_checks}
use Rattle.reading.specs.Dependencies.{carrier_checks}
use Rattle.reading.specs.Reading.{containers_of, container_checks, container_properties, count_checks, read_checks, record_of, read_accepted}
use Rattle.reading.specs.Ends.{AllHold, FirstFailing}
use Rattle.nodes.specs.Places.{behind_of, next_behind}
use Rattle.nodes.specs.Parts.{Alike}
use Rattle.reader.specs.Parts.{ContainerRead, ReadsContainer, Opens, read_children}
use Rattle.walk.specs.Walk.{name_in, tree_tokens}
use Rattle.walk.specs.Containers.{container_name}
use Rattle.reading.proofs.Places.{node-within, children-within, containers-within}
use Rattle.reading.proofs.Containers.{offsets}
use Rattle.nodes.proofs.BehindLaws.{ended-somewhere}
use Rattle.nodes.proofs.Located.{Located, named-ends, named-located}
use Rattle.reading.proofs.CheckLaws.{fail-left, fail-right, fail-here, hold-skips, fail-decides}
use Rattle.reading.proofs.WalkedLaws.{Walked}

-- the checks, those of the container first
offset_at : (ns : List Node) (i : ℕ) → (node_at ns i).at ≡ get_or (offsets ns) i 0
unfolding node_at
offset_at [] i = refl
offset_at (n ∷ ns) zero = refl
offset_at (n ∷ ns) (suc i) = offset_at ns i

length-offsets : (ns : List Node) → length (offsets ns) ≡ length ns
length-offsets [] = refl
length-offsets (n ∷ ns) = ap suc (length-offsets ns)

module _ (tree : List ℕ) (b : Blocks) where
  abbrev all : List Node
  all = containers_of tree b

  abbrev container : Node
  container = node_at all 0

  abbrev behind_properties : List (Check Fault)
  behind_properties =
      count_checks (children container)
      ++ (in_order name_checks [] (children container)
      ++ (in_order feature_checks [] (children container) ++ carrier_checks (children container) (children container)))

  decides : {n p : ℕ} → FirstFailing (read_checks b.start all) n p → refuse_at no_features (fault n p) ≡ read_accepted tree b
  decides f = sym (fail-decides (refuse_at no_features) _ (placed (record_of container)) f)

  -- the container's children begin within the structure block
  child-within : (i : ℕ) → (node_at (children container) i).at ≤ b.end
  child-within i =
      let first = node-within b.end all 0 (containers-within b.end container_name tree (name_in tree b) b.start) in
      (node-within b.end (children container) i (children-within b.end 0 container.behind first.1)).0

module _ {tree : List ℕ} {b : Blocks} {found : Containers} (w : Walked tree b found) where
  counted : found.count ≡ min 2 (length (all tree b))
  unfolding first_two
  counted = ap (λ (f : Containers). f.count) w.noted ∙ ap (min 2) (length-offsets (all tree b))

  first-at : (container tree b).at ≡ found.first
  unfolding first_two
  first-at = offset_at (all tree b) 0 ∙ sym (ap (λ (f : Containers). f.first) w.noted)

  second_at : (node_at (all tree b) 1).at ≡ found.second
  unfolding first_two
  second_at = offset_at (all tree b) 1 ∙ sym (ap (λ (f : Containers). f.second) w.noted)

  pub none_found : found.count ≡ 0 → refuse_at no_features (fault 10 b.start) ≡ read_accepted tree b
  unfolding read_checks
  none_found z =
      let l : length (all tree b) < 1 = omega (arith, counted) in
      decides tree b (fail-left (container_checks b.start (all tree b)) _ (fail-left (_ ∷ []) _ (fail-here 10 b.start (lt-leb 1 (length (all tree b)) l))))

  pub two-found : (found.count ≡ 0 → ⊥) → (found.count ≡ 1 → ⊥) → refuse_at no_features (fault 9 found.second) ≡ read_accepted tree b
  unfolding read_checks
  two-found z o =
      let l : 1 ≤ length (all tree b) = omega (arith, counted) in
      let k : 1 < length (all tree b) = omega (arith, counted) in
      rw (← second_at)
      (decides tree b
      (fail-left (container_checks b.start (all tree b)) _
      (fail-right (_ ∷ []) (_ ∷ []) (le-leb 1 (length (all tree b)) l, tt) (fail-here 9 (node_at (all tree b) 1).at (lt-leb (length (all tree b)) 1 k)))))

  module _ (o : found.count ≡ 1) where
    once : length (all tree b) ≡ 1
    once = omega (arith, counted)

    one_holds : AllHold (container_checks b.start (all tree b))
    one_holds = (le-leb 1 (length (all tree b)) (omega (arith, once)), (le-leb (length (all tree b)) 1 (omega (arith, once)), tt))

    located : Located tree b (container tree b)
    located = named-located tree b container_name b.start 0 (omega (arith, once))

    pub first-within : (found.first < b.end) × (b.end ≤ largest_tree)
    first-within = (omega (arith, located.place, first-at), omega (arith, w.lies.end, w.lies.small))

    -- its contents are somewhere, since its name ends
    pub contents-found : {x : Option ℕ} → x ≡ behind_of (found.first + 4) (text_at tree (found.first + 4) b.end) → IsSome x
    contents-found {x} e =
        let n = named-ends container_name (tree_tokens tree b b.start) 0 (omega (arith, once)) in
        there x (λ z. ended-somewhere (found.first + 4) (ap (λ (at : ℕ). text_at tree (at + 4) b.end) (sym first-at) ∙ sym located.name ∙ n.1) (sym e ∙ z))
      where
        there : (x : Option ℕ) → (x ≡ None → ⊥) → IsSome x
        there None h = absurd (h refl)
        there (Some at) h = search rules

    module _ {first : ℕ} (e : first ≡ next_behind (found.first + 4) b.end (text_at tree (found.first + 4) b.end)) where
      alike : Alike (container tree b).behind (tree_tokens tree b first)
      alike = rw (e, ← first-at) located.like

      pub container-refused : (e : Refusal) → ReadsContainer tree b first (Err e) → refuse_at no_features (fault (number_of e) found.first) ≡ read_accepted tree b
      unfolding read_checks
      container-refused e g =
          rw (← first-at)
          (decides tree b
          (fail-right (container_checks b.start (all tree b)) _ one_holds
          (fail-left (container_properties (container tree b)) _ (g (container tree b) alike.values))))

      module _ {isa : Option ℕ} (g : ReadsContainer tree b first (Ok isa)) where
        is : ContainerRead (container tree b) isa
        is = g (container tree b) alike.values

        pub opened : Opens tree b (unwrap_or isa 0) first (container tree b)
        opened = record { like = alike; isa = is.is; low = λ i. omega (arith, child-within tree b i, first-within.1) }

        pub children-read : {x : Placed Record} → x ≡ read_children (container tree b) → x ≡ read_accepted tree b
        unfolding read_checks read_children
        children-read q =
            q
            ∙ sym (hold-skips (refuse_at no_features) (container_properties (container tree b)) (behind_properties tree b) (placed (record_of (container tree b))) is.hold)
            ∙ sym (hold-skips (refuse_at no_features) (container_checks b.start (all tree b)) _ (placed (record_of (container tree b))) one_holds)
            ∙ sym
            (ap
            (λ (l : List (Check Fault)). first_fault (refuse_at no_features) (container_checks b.start (all tree b) ++ (container_properties (container tree b) ++ (count_checks (children (container tree b)) ++ l))) (placed (record_of (container tree b))))
            (append_assoc (in_order name_checks [] (children (container tree b))) (in_order feature_checks [] (children (container tree b))) (carrier_checks (children (container tree b)) (children (container tree b)))))
