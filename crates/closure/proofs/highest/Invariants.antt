-- The invariant of `closure::highest`.
use Rattle.closure.proofs.PickLaws.{NoneFrom}
use Rattle.closure.proofs.highest.Given as goal

abbrev pub invariant-loop-w : goal.invariant-loop-w
invariant-loop-w l = NoneFrom l.s.words l.w
