-- The invariant of `sets::lowest_outside`.
use Rattle.sets.proofs.LowestLaws.{NoneOutside}
use Rattle.sets.proofs.lowest_outside.Given as goal

abbrev pub invariant-loop-w : goal.invariant-loop-w
invariant-loop-w l = NoneOutside l.word-items l.b.words l.w
