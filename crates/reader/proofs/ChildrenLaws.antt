-- The reading of a container's features, by how many there are and their names: which check decides. Assumes nothing.
use mathlib.Core.Path.{◌≡◌, sym, subst, ◌∙◌}
use mathlib.Core.List.{List, [], ◌++◌}
use Prim.Native.Nat.{ℕ, ◌<◌, min}
use native.Mathlib.Omega.{arith}
use borrow.Author.Tests.{le-leb, lt-leb}
use lib.ListN.{length, get_or}
use Rattle.std.specs.Prelude.{Option, None, Some}
use Rattle.refusal.specs.Refusal.{Fault, Placed, placed, refuse_at, fault}
use Rattle.refusal.specs.Checks.{Check}
use Rattle.header.specs.declared.Blocks.{Blocks}
use Rattle.record.specs.declared.Record.{Record}
use Rattle.record.specs.Record.{most_features, no_features}
use Rattle.walk.specs.Walk.{tree_tokens}
use Rattle.nodes.specs.declared.ChildPlaces.{ChildPlaces}
use Rattle.nodes.specs.Nodes.{Node, node_at, children_at, children}
use Rattle.reading.specs.Features.{in_order, name_checks, feature_checks}
use Rattle.reading.specs.Dependencies.{carrier_checks}
use Rattle.reading.specs.Reading.{count_checks, record_of}
use Rattle.reading.specs.Ends.{AllHold}
use Rattle.nodes.specs.Places.{no_place, child_places, same_names, first_repeated}
use Rattle.nodes.specs.Parts.{FirstRepeated, Gathers}
use Rattle.reader.specs.Parts.{AtPlaces, Opens, Contains, read_features, read_children}
use Rattle.nodes.proofs.PlaceLaws.{gathers}
use Rattle.nodes.proofs.SearchLaws.{is-repeated}
use Rattle.reader.proofs.RepeatLaws.{names-differ, names-repeat}
use Rattle.reading.proofs.CheckLaws.{fail-left, fail-right, fail-here, hold-skips, fail-decides}

module _ {tree : List ℕ} {b : Blocks} {isa first : ℕ} {c : Node} (w : Opens tree b isa first c) {fs : ChildPlaces}
    (e : fs ≡ child_places b.end (children_at 0 (tree_tokens tree b first))) where
  abbrev last : List (Check Fault)
  last = in_order feature_checks [] (children c) ++ carrier_checks (children c) (children c)

  f : Gathers tree b (children c) fs
  f = subst (λ (ns : List Node). Gathers tree b ns fs) (sym (w.like.nodes 0)) (gathers tree b first e)

  pub too_many : {over : ℕ} → fs.over ≡ Some over → refuse_at no_features (fault 8 over) ≡ read_children c
  unfolding read_children
  too_many m =
      rw (← (f.over m))
      (sym
      (fail-decides (refuse_at no_features) _ (placed (record_of c))
      (fail-left (count_checks (children c)) (in_order name_checks [] (children c) ++ last)
      (fail-here 8 (node_at (children c) most_features).at (lt-leb (length (children c)) most_features (f.many m))))))

  module _ (m : fs.over ≡ None) where
    places : AtPlaces tree b fs (children c)
    places = record { count = f.count m; few = f.few m; places = f.nodes m; low = λ i l. w.low i }

    count-holds : AllHold (count_checks (children c))
    count-holds = (le-leb (length (children c)) most_features (f.few m), tt)

    pub contained : Contains tree b isa fs c
    contained = record { nodes = places; isa = w.isa }

    module _ {later : Option ℕ} (k : later ≡ first_repeated (same_names tree b.end fs.places) (min fs.count most_features)) where
      r : FirstRepeated (same_names tree b.end fs.places) fs.count later
      r =
          let n : min fs.count most_features ≡ fs.count = omega (arith, f.within) in
          rw (k, n) (is-repeated (same_names tree b.end fs.places) fs.count)

      module _ {i : ℕ} (l : later ≡ Some i) where
        repeats : FirstRepeated (same_names tree b.end fs.places) fs.count (Some i)
        repeats = subst (FirstRepeated (same_names tree b.end fs.places) fs.count) l r

        pub repeated-low : i < most_features
        repeated-low = omega (arith, repeats.0, f.within)

        pub name-repeated : refuse_at no_features (fault 9 (get_or fs.places i no_place).at) ≡ read_children c
        unfolding read_children
        name-repeated =
            sym
            (fail-decides (refuse_at no_features) _ (placed (record_of c))
            (fail-right (count_checks (children c)) (in_order name_checks [] (children c) ++ last) count-holds
            (fail-left (in_order name_checks [] (children c)) last (names-repeat tree b fs (children c) places i repeats))))

      pub all_read : later ≡ None → {x : Placed Record} → x ≡ read_features c → x ≡ read_children c
      unfolding read_features read_children
      all_read l q =
          let d = names-differ tree b fs (children c) places (subst (FirstRepeated (same_names tree b.end fs.places) fs.count) l r) in
          q
          ∙ sym (hold-skips (refuse_at no_features) (in_order name_checks [] (children c)) last (placed (record_of c)) d)
          ∙ sym (hold-skips (refuse_at no_features) (count_checks (children c)) (in_order name_checks [] (children c) ++ last) (placed (record_of c)) count-holds)
