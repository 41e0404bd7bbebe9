-- The invariant of `chain::bounded_part`.
use Rattle.chain.proofs.BoundedLaws.{BoundedTo}
use Rattle.chain.proofs.bounded_part.Given as goal

abbrev pub invariant-loop-i : goal.invariant-loop-i
invariant-loop-i l = BoundedTo l.g.slots.now l.g.counts.now l.g.n l.i l.set.words l.used
