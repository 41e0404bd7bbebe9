-- The invariant of `permitted::examine`.
use Rattle.permitted.proofs.AskedLaws.{SeenTo}
use Rattle.permitted.proofs.examine.Given as goal

abbrev pub invariant-loop-i : goal.invariant-loop-i
invariant-loop-i l = SeenTo l.r l.level l.g l.i l.set.words l.counts
