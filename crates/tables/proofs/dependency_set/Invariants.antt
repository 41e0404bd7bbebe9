-- The invariant of `tables::dependency_set`: the set has the slots passed.
use mathlib.Core.Path.{◌≡◌}
use Rattle.tables.specs.Parts.{slot_set}
use Rattle.tables.proofs.dependency_set.Given as goal

abbrev pub invariant-loop-slot : goal.invariant-loop-slot
invariant-loop-slot l = l.s.words ≡ slot_set l.g.slots.now l.i l.slot-index
