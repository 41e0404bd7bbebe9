-- The invariant of `positions::below`: the words passed are those of the positions below the bound.
use Rattle.positions.specs.Sets.{word_below}
use Rattle.positions.proofs.FillLaws.{FilledTo}
use Rattle.positions.proofs.below.Given as goal

abbrev pub invariant-loop-w : goal.invariant-loop-w
invariant-loop-w l = FilledTo (word_below l.n) l.word-items l.w
