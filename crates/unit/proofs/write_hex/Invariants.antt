-- The invariant of `unit::write_hex`.
use mathlib.Core.Path.{◌≡◌}
use Prim.Native.Nat.{◌+◌, ◌≤◌}
use lib.ListN.{length}
use Rattle.unit.specs.Hex.{digit_count}
use Rattle.unit.proofs.Digits.{Writing}
use Rattle.unit.proofs.write_hex.Given as goal

abbrev pub invariant-loop-place : goal.invariant-loop-place
invariant-loop-place l =
    (l.count ≡ digit_count l.number) × (l.at + l.count ≤ length l.initial.buffer) × Writing l.number l.at l.initial.buffer l.buffer l.rest l.place
