-- The names of a container's features: none is repeated, or the first that is. Assumes nothing.
use mathlib.Core.Path.{◌≡◌, refl, sym, ap, ◌∙◌}
use mathlib.Core.Bool.{Bool, true, false, not}
use mathlib.Core.List.{List, [], ◌∷◌}
use Prim.Native.Nat.{ℕ, suc, ◌<◌}
use native.Mathlib.Omega.{arith}
use lib.ListN.{length, take, get_or}
use lib.Seq.{length-take-le}
use Rattle.std.specs.Prelude.{None, Some}
use Rattle.header.specs.declared.Blocks.{Blocks}
use Rattle.names.specs.Names.{same_text}
use Rattle.positions.proofs.BelowLaws.{no_way}
use Rattle.nodes.specs.declared.ChildPlaces.{ChildPlaces}
use Rattle.nodes.specs.Nodes.{Node, node_at}
use Rattle.reading.specs.Features.{in_order, some, name_checks}
use Rattle.reading.specs.Ends.{AllHold, FirstFailing}
use Rattle.nodes.specs.Places.{no_place, same_names}
use Rattle.nodes.specs.Parts.{FirstRepeated}
use Rattle.reader.specs.Parts.{AtPlaces}
use Rattle.reading.proofs.Carriers.{node-before, some-none}
use Rattle.reading.proofs.CheckLaws.{fail-here}
use Rattle.reading.proofs.OrderLaws.{order-holds, order-fails}

-- one of some nodes passes a test, or none
none_pass : (q : Node → Bool) (ns : List Node) → ((j : ℕ) → j < length ns → q (node_at ns j) ≡ false) → some q ns ≡ false
unfolding some node_at
none_pass q [] h = refl
none_pass q (n ∷ ns) h = rw (h 0 (omega arith)) (none_pass q ns (λ j l. h (suc j) (omega arith)))

one_passes : (q : Node → Bool) (ns : List Node) (j : ℕ) → j < length ns → q (node_at ns j) ≡ true → some q ns ≡ true
one_passes q ns j l h = go (some q ns) refl
  where
    go : (s : Bool) → some q ns ≡ s → s ≡ true
    go true e = refl
    go false e = no_way (q (node_at ns j)) h (some-none q ns j l e)

module _ (tree : List ℕ) (b : Blocks) (fs : ChildPlaces) (nodes : List Node) (at : AtPlaces tree b fs nodes) where
  abbrev same : ℕ → ℕ → Bool
  same i j = same_names tree b.end fs.places i j

  -- the test of a node's name against an earlier one's
  abbrev named : ℕ → Node → Bool
  named i m = same_text m.name (node_at nodes i).name

  named-is : (i j : ℕ) → i < length nodes → j < i → named i (node_at (take i nodes) j) ≡ same i j
  unfolding same_names
  named-is i j l k = rw (node-before nodes i j k, (at.places j (omega arith)).name, (at.places i l).name)

  name_new : (i : ℕ) → i < length nodes → ((j : ℕ) → j < i → same i j ≡ false) → AllHold (name_checks (take i nodes) (node_at nodes i))
  name_new i l h =
      let n = length-take-le i nodes (omega arith) in
      let e = none_pass (named i) (take i nodes) (λ j k. named-is i j l (omega arith) ∙ h j (omega arith)) in
      (ap not e, tt)

  pub names-differ : FirstRepeated (same_names tree b.end fs.places) fs.count None → AllHold (in_order name_checks [] nodes)
  names-differ f = order-holds name_checks nodes (λ i l. name_new i l (λ j k. f i j (omega (arith, at.count)) k))

  pub names-repeat : (r : ℕ) → FirstRepeated (same_names tree b.end fs.places) fs.count (Some r)
      → FirstFailing (in_order name_checks [] nodes) 9 (get_or fs.places r no_place).at
  names-repeat r f =
      let h : r < length nodes = omega (arith, f.0, at.count) in
      let j = f.2 in
      let n = length-take-le r nodes (omega arith) in
      let e = one_passes (named r) (take r nodes) j.0 (omega (arith, j.1.0)) (named-is r j.0 h j.1.0 ∙ j.1.1) in
      rw (sym (at.places r h).offset)
      (order-fails name_checks nodes r h (λ i k. name_new i (omega arith) (λ m o. f.1 i m k o)) (fail-here 9 (node_at nodes r).at (ap not e)))
