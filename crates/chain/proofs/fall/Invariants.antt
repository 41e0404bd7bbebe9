-- The invariant of `chain::fall`.
use Rattle.chain.proofs.FallLaws.{Falling}
use Rattle.chain.proofs.fall.Given as goal

abbrev pub invariant-loop-k : goal.invariant-loop-k
invariant-loop-k l = Falling l.table.words.now l.table.n l.initial.s.words l.i l.sets l.s l.k
