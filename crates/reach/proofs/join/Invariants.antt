-- The invariant of `reach::join`.
use Rattle.reach.proofs.JoinLaws.{JoinsBelow}
use Rattle.reach.proofs.join.Given as goal

abbrev pub invariant-loop-i : goal.invariant-loop-i
invariant-loop-i l = JoinsBelow l.n l.k l.i l.initial.table l.table
