-- The features of a container, one after the other, and then their dependencies. Assumes nothing.
use mathlib.Core.Path.{◌≡◌, refl, sym, ap, subst, ◌∙◌}
use mathlib.Core.List.{List, [], ◌∷◌, ◌++◌, map}
use Prim.Native.Nat.{ℕ, ◌+◌, ◌<◌, ◌≤◌}
use native.Mathlib.Omega.{arith}
use native.Mathlib.Numerals.{add-one}
use native.Mathlib.Decide.{dec_lt}
use borrow.Author.Tests.{leb-true}
use lib.ListN.{length, get_or, take, set}
use lib.Seq.{get_or-take, length-take-le, take_all}
use Rattle.cells.specs.Rows.{padded}
use Rattle.std.specs.Prelude.{Option, None, Result, Ok, Err}
use Rattle.refusal.specs.declared.Refusal.{Refusal}
use Rattle.refusal.specs.declared.RefusedAt.{RefusedAt}
use Rattle.refusal.specs.Refusal.{number_in, Placed, placed, refuse_at, refused_at, fault_of_refused}
use Rattle.refusal.proofs.Numbers.{numbered}
use Rattle.header.specs.declared.Blocks.{Blocks}
use Rattle.record.specs.declared.Record.{Record}
use Rattle.record.specs.declared.Feature.{Feature}
use Rattle.record.specs.Record.{most_features, most_dependencies, no_feature, no_features}
use Rattle.nodes.specs.declared.ChildPlaces.{ChildPlaces}
use Rattle.nodes.specs.declared.NodePlace.{NodePlace}
use Rattle.nodes.specs.Parts.{IsNode}
use Rattle.nodes.specs.Nodes.{Node, node_at, children}
use Rattle.nodes.specs.Values.{value_of, cells_of}
use Rattle.reading.specs.Features.{in_order, feature_checks, feature_of}
use Rattle.reading.specs.Dependencies.{carrier_checks}
use Rattle.reading.specs.Reading.{record_with, record_of}
use Rattle.reading.specs.Ends.{AllHold}
use Rattle.nodes.specs.Places.{no_place}
use Rattle.reader.specs.Parts.{noted_of, ArePhandles, AreFeatures, FeatureIs, ReadsFeature, AtPlaces, FeaturesRead, FeaturesAre, Known, SlotsFilled, SlotsAre, Contains, read_features}
use Rattle.nodes.proofs.RowLaws.{row_more}
use Rattle.reading.proofs.CheckLaws.{hold-both, fail-left, fail-right, hold-decide, fail-decides}
use Rattle.reading.proofs.SlotRowLaws.{take-node}
use Rattle.reading.proofs.OrderLaws.{order-holds, order-fails}

-- a row of what nodes give, with one node more
row-taken : {A : Type 0} (m : ℕ) (z : A) (g : Node → A) (nodes : List Node) (i : ℕ) → i < length nodes → length nodes ≤ m
    → {row : List A} {x : A} → row ≡ padded m z (map g (take i nodes)) → x ≡ g (node_at nodes i)
    → set row i x ≡ padded m z (map g (take (i + 1) nodes))
row-taken m z g nodes i l few {row} {x} e k =
    let n : length (take i nodes) ≡ i = length-take-le i nodes (omega arith) in
    let q = row_more g m z (take i nodes) (node_at nodes i) (omega arith) in
    rw (e, k, add-one i, take-node nodes i l)
    (subst (λ (j : ℕ). set (padded m z (map g (take i nodes))) j (g (node_at nodes i)) ≡ padded m z (map g (take i nodes ++ node_at nodes i ∷ []))) n q)

-- the features before a position were read
pub record ReadBelow (nodes : List Node) (i : ℕ) (fs : List Feature) (ps : List (Option ℕ)) : Type 0 where
  pub within : i ≤ length nodes
  pub hold : (j : ℕ) → j < i → AllHold (feature_checks (take j nodes) (node_at nodes j))
  pub features : AreFeatures fs (take i nodes)
  pub phandles : ArePhandles ps (take i nodes)

few-here : (before : List Node) (n : Node) → AllHold (feature_checks before n) → length (cells_of (value_of n "dependencies")) ≤ most_dependencies
unfolding feature_checks
few-here before n h = leb-true _ _ h.1.1.1.1.1.1.1.1.1.1.1.1.1.1.1.1.0

-- the place at a position, as a loop over the places has it
abbrev pub place_at : ChildPlaces → ℕ → NodePlace
place_at fs i = get_or (take fs.count fs.places) i no_place

module _ {tree : List ℕ} {b : Blocks} {fs : ChildPlaces} {nodes : List Node} (a : AtPlaces tree b fs nodes) where
  pub place-node : (i : ℕ) → i < fs.count → IsNode tree b (node_at nodes i) (place_at fs i)
  place-node i l = rw (get_or-take fs.count fs.places i no_place l) (a.places i (omega (arith, a.count)))

  module _ {i : ℕ} {features : List Feature} {phandles : List (Option ℕ)} (w : ReadBelow nodes i features phandles) where
    module _ (l : i < fs.count) {new : List (Option ℕ)} {read : Result Feature Refusal} (r : ReadsFeature tree b (place_at fs i) phandles new i read) where
      inside : i < length nodes
      inside = omega (arith, a.count)

      long : length (take i nodes) ≡ i
      long = length-take-le i nodes (omega (arith, inside))

      here : FeatureIs (take i nodes) (node_at nodes i) phandles new read
      here = r (take i nodes) (node_at nodes i) (place-node i l) w.phandles (sym long)

      pub below_more : {f : Feature} → read ≡ Ok f → ReadBelow nodes (i + 1) (set features i f) new
      below_more e = record {
        within = omega (arith, inside);
        hold = λ j h. go j h (dec_lt j i);
        features = row-taken most_features no_feature feature_of nodes i inside a.few w.features (here.feature e);
        phandles = here.phandle z ∙ rw long (row-taken most_features None noted_of nodes i inside a.few w.phandles refl);
      }
        where
          z : number_in read ≡ 0
          z = ap number_in e

          go : (j : ℕ) → j < i + 1 → Dec (j < i) → AllHold (feature_checks (take j nodes) (node_at nodes j))
          go j h (yes k) = w.hold j k
          go j h (no k) = let e : j ≡ i = omega arith in rw e (here.judged.hold z)

      pub below-refused : {e : Refusal} → read ≡ Err e → FeaturesAre nodes new (Err (refused_at e (place_at fs i).at))
      below-refused {e} k =
          let f = here.judged.fail (λ z. numbered e (sym (ap number_in k) ∙ z)) in
          rw (← (place-node i l).offset) (order-fails feature_checks nodes i inside w.hold (rw k at f))

    pub below-done : fs.count ≤ i → FeaturesRead nodes phandles features
    below-done l =
        let t : take i nodes ≡ nodes = take_all i nodes (omega (arith, a.count)) in
        let h : (j : ℕ) → j < length nodes → AllHold (feature_checks (take j nodes) (node_at nodes j)) = λ j k. w.hold j (omega (arith, a.count)) in
        record {
          hold = order-holds feature_checks nodes h;
          are = w.features ∙ ap (λ (l : List Node). padded most_features no_feature (map feature_of l)) t;
          noted = w.phandles ∙ ap (λ (l : List Node). padded most_features None (map noted_of l)) t;
          few = λ j k. few-here (take j nodes) (node_at nodes j) (h j k);
        }

-- the features, and then their dependencies
module _ {tree : List ℕ} {b : Blocks} {isa : ℕ} {fs : ChildPlaces} {c : Node} (g : Contains tree b isa fs c) (phandles : List (Option ℕ)) where
  pub features-refused : (e : RefusedAt) → FeaturesAre (children c) phandles (Err e) → refuse_at no_features (fault_of_refused e) ≡ read_features c
  unfolding read_features
  features-refused e f =
      sym (fail-decides (refuse_at no_features) _ _ (fail-left (in_order feature_checks [] (children c)) (carrier_checks (children c) (children c)) f))

  module _ {features : List Feature} (r : FeaturesRead (children c) phandles features) where
    pub features-known : Known tree b fs phandles (children c)
    features-known = record { at = g.nodes; noted = r.noted; few = r.few }

    pub slots-refused : (slots : List ℕ) (e : RefusedAt) → SlotsAre (children c) slots (Err e) → refuse_at no_features (fault_of_refused e) ≡ read_features c
    unfolding read_features
    slots-refused slots e f =
        sym
        (fail-decides (refuse_at no_features) _ _
        (fail-right (in_order feature_checks [] (children c)) (carrier_checks (children c) (children c)) r.hold f))

    pub slots_read : {slots : List ℕ} → SlotsFilled (children c) slots
        → placed (record { isa = isa; count = fs.count; features = features; slots = slots }) ≡ read_features c
    unfolding read_features record_of record_with
    slots_read {slots} f =
        same
        ∙ sym (hold-decide (refuse_at no_features) _ _ (hold-both (in_order feature_checks [] (children c)) (carrier_checks (children c) (children c)) r.hold f.hold))
      where
        same : ◌≡◌ {A = Placed Record} (placed (record { isa = isa; count = fs.count; features = features; slots = slots })) (placed (record_of c))
        same = rw (g.isa, g.nodes.count, r.are, f.found, f.are)
