-- The invariant of `words::words`.
use Rattle.words.proofs.BitsLaws.{BitsBelow}
use Rattle.words.proofs.words.Given as goal

abbrev pub invariant-loop-i : goal.invariant-loop-i
invariant-loop-i l = BitsBelow l.r l.set.words l.i l.bits
