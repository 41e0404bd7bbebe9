-- The invariant of `unit::digit_count`.
use mathlib.Core.Path.{◌≡◌}
use Prim.Native.Nat.{◌+◌, ◌^◌, ◌<◌}
use lib.ListN.{length}
use Rattle.unit.specs.Hex.{digit_count}
use Rattle.unit.proofs.Digits.{left}
use Rattle.unit.proofs.digit_count.Given as goal

abbrev pub invariant-loop-rest : goal.invariant-loop-rest
invariant-loop-rest l = (l.count + length (left l.rest) ≡ digit_count l.number) × (l.number < 2 ^ 64) × (l.rest < 2 ^ 64)

abbrev pub decreases-loop-rest : goal.decreases-loop-rest
decreases-loop-rest l = l.rest
