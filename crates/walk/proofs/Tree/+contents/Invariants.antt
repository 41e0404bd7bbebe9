-- The loop's invariant in `walk::Tree::contents` is `Inside`; the levels left fall by one at each call.
use Prim.Native.Nat.{◌-◌, ◌<◌}
use Rattle.walk.specs.Walk.{most_levels}
use Rattle.walk.proofs.Flow.{Inside}
use Rattle.walk.proofs.Tree.+contents.Given as goal

abbrev pub decreases-contents : goal.decreases-contents
decreases-contents l = l.levels

abbrev pub invariant-loop-next : goal.invariant-loop-next
invariant-loop-next l = (l.levels < most_levels) × Inside l.self.bytes.now l.self.blocks (most_levels - l.levels) l.from l.initial.found l.at l.found

abbrev pub decreases-loop-next : goal.decreases-loop-next
decreases-loop-next l = l.self.blocks.end - l.at
