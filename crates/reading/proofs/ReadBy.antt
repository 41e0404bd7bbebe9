-- Readings by rules: checks of a container's own properties and of its features, and the record. Two readings agree where the rules of the
-- one accept what those of the other do. Assumes nothing.
use Prim.Native.Nat.{ℕ, zero, suc}
use mathlib.Core.Path.{◌≡◌, refl, sym, ap, ◌∙◌}
use mathlib.Core.List.{List, [], ◌∷◌, ◌++◌}
use native.Mathlib.Omega.{arith}
use Rattle.refusal.specs.Refusal.{Fault, fault, Placed, placed, refuse_at}
use Rattle.refusal.specs.Checks.{Check, first_fault}
use Rattle.refusal.proofs.Checks.{Passes, NumberedAt, passes, passes-both, passes-join, answered-at}
use Rattle.record.specs.declared.Record.{Record}
use Rattle.record.specs.Record.{no_features}
use Rattle.walk.specs.declared.Layout.{Layout}
use Rattle.header.specs.Header.{blocks_of}
use Rattle.walk.specs.Checked.{layout_of, check_tree}
use Rattle.walk.specs.Faults.{CheckEnds, answered, header_refused, walk_refused}
use Rattle.walk.proofs.CheckEnds.{check-ends}
use Rattle.nodes.specs.Nodes.{Node, node_at, children}
use Rattle.nodes.specs.Values.{value_of, cells_of}
use Rattle.reading.specs.Features.{in_order, name_checks}
use Rattle.reading.specs.Dependencies.{cell_checks, carrier_checks}
use Rattle.reading.specs.Reading.{container_checks, count_checks, containers_of}
use Rattle.reading.specs.Accepted.{container_of, features_of}

pub record Rules : Type 0 where
  pub properties : Node → List (Check Fault)
  pub features : List Node → Node → List (Check Fault)
  pub record_read : Node → Record

-- no check has number 0, so that all hold of what is not refused
pub record RulesNumbered (rules : Rules) : Type 0 where
  pub properties : (c : Node) → NumberedAt (rules.properties c)
  pub features : (before : List Node) (n : Node) → NumberedAt (rules.features before n)

module _ (rules : Rules) where
  -- all the checks of a reading, and the reading
  abbrev pub checks_by : ℕ → List Node → List (Check Fault)
  checks_by start containers =
      let features = children (node_at containers 0) in
      container_checks start containers
      ++ rules.properties (node_at containers 0)
      ++ count_checks features
      ++ in_order name_checks [] features
      ++ in_order rules.features [] features
      ++ carrier_checks features features

  abbrev pub read_by : List ℕ → Placed Layout → Placed Record
  read_by tree checked = elim checked.number [
    | zero ↦
        let containers = containers_of tree checked.value.blocks in
        first_fault (refuse_at no_features) (checks_by checked.value.blocks.start containers) (placed (rules.record_read (node_at containers 0)))
    | suc n ↦ refuse_at no_features (fault checked.number checked.place)
  ]

-- the numbers of the checks
numbered-join : (cs ds : List (Check Fault)) → NumberedAt cs → NumberedAt ds → NumberedAt (cs ++ ds)
numbered-join [] ds h k = k
numbered-join (c ∷ cs) ds h k = (h.0, numbered-join cs ds h.1 k)

numbered-cells : (at : ℕ) (features : List Node) (ps : List ℕ) → NumberedAt (cell_checks at features ps)
unfolding cell_checks
numbered-cells at features [] = tt
numbered-cells at features (p ∷ ps) = (omega arith, numbered-cells at features ps)

numbered-carriers : (features ns : List Node) → NumberedAt (carrier_checks features ns)
unfolding carrier_checks
numbered-carriers features [] = tt
numbered-carriers features (n ∷ ns) =
    numbered-join (cell_checks n.at features (cells_of (value_of n "dependencies"))) (carrier_checks features ns)
    (numbered-cells n.at features (cells_of (value_of n "dependencies"))) (numbered-carriers features ns)

numbered-order : (checks : List Node → Node → List (Check Fault)) → ((before : List Node) (n : Node) → NumberedAt (checks before n))
    → (before ns : List Node) → NumberedAt (in_order checks before ns)
unfolding in_order
numbered-order checks f before [] = tt
numbered-order checks f before (n ∷ ns) =
    numbered-join (checks before n) (in_order checks (before ++ n ∷ []) ns) (f before n) (numbered-order checks f (before ++ n ∷ []) ns)

module _ (rules : Rules) (start : ℕ) (containers : List Node) where
  abbrev container : Node
  container = node_at containers 0

  abbrev those : List Node
  those = children container

  -- the checks up to the container's own properties, to the number of features, to their names, and to the features
  abbrev own : List (Check Fault)
  own = container_checks start containers ++ rules.properties container

  abbrev counted : List (Check Fault)
  counted = own ++ count_checks those

  abbrev named : List (Check Fault)
  named = counted ++ in_order name_checks [] those

  abbrev described : List (Check Fault)
  described = named ++ in_order rules.features [] those

  numbered-by : RulesNumbered rules → NumberedAt (checks_by rules start containers)
  numbered-by numbered =
      numbered-join described (carrier_checks those those)
      (numbered-join named (in_order rules.features [] those)
      (numbered-join counted (in_order name_checks [] those)
      (numbered-join own (count_checks those)
      (numbered-join (container_checks start containers) (rules.properties container) (omega arith) (numbered.properties container)) (omega arith))
      (numbered-order name_checks (λ before n. omega arith) [] those))
      (numbered-order rules.features numbered.features [] those))
      (numbered-carriers those those)

  -- what the checks hold of, part by part
  pub record Parts : Type 0 where
    pub containers_hold : Passes (container_checks start containers)
    pub properties_hold : Passes (rules.properties container)
    pub count_holds : Passes (count_checks those)
    pub names_hold : Passes (in_order name_checks [] those)
    pub features_hold : Passes (in_order rules.features [] those)
    pub carriers_hold : Passes (carrier_checks those those)

  parts : Passes (checks_by rules start containers) → Parts
  parts p =
      let e = passes-both described (carrier_checks those those) p in
      let d = passes-both named (in_order rules.features [] those) e.0 in
      let c = passes-both counted (in_order name_checks [] those) d.0 in
      let b = passes-both own (count_checks those) c.0 in
      let a = passes-both (container_checks start containers) (rules.properties container) b.0 in
      record {
        containers_hold = a.0;
        properties_hold = a.1;
        count_holds = b.1;
        names_hold = c.1;
        features_hold = d.1;
        carriers_hold = e.1;
      }

  whole : Parts → Passes (checks_by rules start containers)
  whole p =
      passes-join described (carrier_checks those those)
      (passes-join named (in_order rules.features [] those)
      (passes-join counted (in_order name_checks [] those)
      (passes-join own (count_checks those)
      (passes-join (container_checks start containers) (rules.properties container) p.containers_hold p.properties_hold) p.count_holds)
      p.names_hold)
      p.features_hold)
      p.carriers_hold

module _ (tree : List ℕ) where
  abbrev containers : List Node
  containers = containers_of tree (blocks_of tree)

  abbrev start : ℕ
  start = (blocks_of tree).start

  -- what is accepted was walked, and passes every check
  walk-accepts : (rules : Rules) (x : Placed Layout) → (read_by rules tree x).number ≡ 0 → x.number ≡ 0
  walk-accepts rules x z = go x.number refl
    where
      go : (k : ℕ) → x.number ≡ k → x.number ≡ 0
      go zero e = e
      go (suc k) e = let q : suc k ≡ 0 = rw e at z in absurd (omega arith)

  after : (rules : Rules) {x : Placed Layout} → CheckEnds tree x → x.number ≡ 0 → read_by rules tree x
      ≡ first_fault (refuse_at no_features) (checks_by rules start containers) (placed (rules.record_read (container_of tree)))
  unfolding layout_of
  after rules (answered h w) y = refl
  after rules (header_refused h l m q) y = absurd (omega arith)
  after rules (walk_refused h f) y = absurd (omega (arith, f.least))

  module _ (rules : Rules) (numbered : RulesNumbered rules) (z : (read_by rules tree (check_tree tree)).number ≡ 0) where
    walked : (check_tree tree).number ≡ 0
    walked = walk-accepts rules (check_tree tree) z

    pub accepted-parts : Parts rules start containers
    accepted-parts =
        parts rules start containers (answered-at no_features (rules.record_read (container_of tree)) (checks_by rules start containers) (numbered-by rules start containers numbered)
        (ap (λ (r : Placed Record). r.number) (sym (after rules (check-ends tree) walked)) ∙ z))

    -- other rules that accept this container and these features read the same record
    pub accepted-alike : (other : Rules) → Passes (other.properties (container_of tree)) → Passes (in_order other.features [] (features_of tree))
        → other.record_read (container_of tree) ≡ rules.record_read (container_of tree) → read_by other tree (check_tree tree) ≡ read_by rules tree (check_tree tree)
    accepted-alike other p f e =
        let a = accepted-parts in
        let q = whole other start containers (record {
          containers_hold = a.containers_hold;
          properties_hold = p;
          count_holds = a.count_holds;
          names_hold = a.names_hold;
          features_hold = f;
          carriers_hold = a.carriers_hold;
        }) in
        after other (check-ends tree) walked
        ∙ passes (refuse_at no_features) (checks_by other start containers) (placed (other.record_read (container_of tree))) q
        ∙ ap placed e
        ∙ sym (passes (refuse_at no_features) (checks_by rules start containers) (placed (rules.record_read (container_of tree))) (whole rules start containers a))
        ∙ sym (after rules (check-ends tree) walked)
