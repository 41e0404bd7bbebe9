-- `tables::dependency_set` meets its contract. Assumes nothing.
use Prim.Native.Nat.{ℕ}
use mathlib.Core.Path.{◌≡◌, ap, ◌∙◌}
use mathlib.Core.List.{List}
use native.Mathlib.Omega.{arith}
use lib.ListN.{length, get_or}
use Rattle.positions.specs.Sets.{with_member}
use Rattle.tables.specs.Slots.{used_slots}
use Rattle.tables.specs.Parts.{slot_set}
use Rattle.tables.proofs.SlotLaws.{own-slot, length-own, slots-none, slots-more}
use Rattle.tables.proofs.dependency_set.Goals as goal

pub loop-slot-init : goal.loop-slot-init
loop-slot-init c = c.empty-s.ensures ∙ slots-none _ _

pub loop-slot-preserved : goal.loop-slot-preserved
loop-slot-preserved c =
    let g = c.args.g in
    let k = c.loop-slot.slot-index in
    let own = c.dependencies-slot-items.ensures in
    let slot = ap (λ (l : List ℕ). get_or l k 0) own ∙ own-slot g.slots.now g.counts.now c.args.i k (omega (arith, ap length own ∙ length-own g.slots.now g.counts.now c.args.i)) in
    c.insert-s.ensures ∙ ap (with_member _) (c.from.ensures ∙ slot) ∙ slots-more _ _ _ c.loop-slot.invariant

pub returns : goal.returns
returns c =
    let g = c.args.g in
    let e : c.loop-slot.slot-index ≡ used_slots g.counts.now c.args.i = omega (arith, ap length c.dependencies-slot-items.ensures ∙ length-own g.slots.now g.counts.now c.args.i) in
    c.loop-slot.invariant ∙ ap (slot_set _ _) e
