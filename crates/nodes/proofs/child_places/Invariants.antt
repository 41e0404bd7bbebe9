-- The invariant of `nodes::child_places`.
use Prim.Native.Nat.{◌-◌}
use Rattle.nodes.proofs.GatherLaws.{Gathering}
use Rattle.nodes.proofs.child_places.Given as goal

abbrev pub invariant-loop-at : goal.invariant-loop-at
invariant-loop-at l = Gathering l.tree l.b l.first l.fs l.depth l.at

abbrev pub decreases-loop-at : goal.decreases-loop-at
decreases-loop-at l = l.b.end - l.at
