-- The invariant of `reach::reach_rows`.
use Rattle.reach.proofs.JoinLaws.{Closes}
use Rattle.reach.proofs.reach_rows.Given as goal

abbrev pub invariant-loop-k : goal.invariant-loop-k
invariant-loop-k l = Closes l.table.words.now l.table.n l.k l.rows.words
