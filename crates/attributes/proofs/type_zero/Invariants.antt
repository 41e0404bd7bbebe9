-- The invariant of `attributes::type_zero`.
use Prim.Native.Nat.{◌-◌}
use lib.ListN.{length}
use Rattle.attributes.proofs.Scan.{Scan}
use Rattle.attributes.proofs.type_zero.Given as goal

abbrev pub invariant-loop-at : goal.invariant-loop-at
invariant-loop-at l = Scan l.value l.found l.bytes l.at

abbrev pub decreases-loop-at : goal.decreases-loop-at
decreases-loop-at l = length l.value - l.at
