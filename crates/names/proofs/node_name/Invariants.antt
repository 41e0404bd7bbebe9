-- The invariant of `names::node_name`.
use Rattle.names.proofs.NameLaws.{NodePassed}
use Rattle.names.proofs.node_name.Given as goal

abbrev pub invariant-loop-length : goal.invariant-loop-length
invariant-loop-length l = NodePassed l.fn.s l.from l.end l.split l.fresh l.length
