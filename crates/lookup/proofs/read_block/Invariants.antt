-- The invariant of `lookup::read_block`.
use Prim.Native.Nat.{◌-◌}
use lib.ListN.{length}
use Rattle.lookup.proofs.Reading.{Reading}
use Rattle.lookup.proofs.read_block.Given as goal

abbrev pub invariant-loop-cursor : goal.invariant-loop-cursor
invariant-loop-cursor l = Reading l.block l.strings l.name l.hit l.cursor.at

abbrev pub decreases-loop-cursor : goal.decreases-loop-cursor
decreases-loop-cursor l = length l.block - l.cursor.at
