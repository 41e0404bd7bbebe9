-- The invariant of `stringlist::scan`.
use mathlib.Core.Path.{◌≡◌}
use Prim.Native.Nat.{◌-◌, ◌≤◌}
use lib.ListN.{length}
use Rattle.stringlist.proofs.StopLaws.{stop_from}
use Rattle.stringlist.proofs.scan.Given as goal

abbrev pub invariant-loop-to : goal.invariant-loop-to
invariant-loop-to l = (l.place ≤ l.from) × (stop_from l.list l.text l.sought l.place l.from ≡ stop_from l.list l.text l.sought 0 0)

abbrev pub decreases-loop-to : goal.decreases-loop-to
decreases-loop-to l = length l.list - l.from
