-- The invariant of `walk::Tree::last_at`.
use Prim.Native.Nat.{◌-◌}
use Rattle.walk.specs.Walk.{after_root}
use Rattle.walk.proofs.Outside.{Outside}
use Rattle.walk.proofs.Tree.last_at.Given as goal

abbrev pub invariant-loop-next : goal.invariant-loop-next
invariant-loop-next l = Outside l.self.bytes.now l.self.blocks after_root l.from l.cursor.at

abbrev pub decreases-loop-next : goal.decreases-loop-next
decreases-loop-next l = l.self.blocks.end - l.cursor.at
