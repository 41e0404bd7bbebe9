-- Bytes in front of a number's text and past it stay in the lent buffer (A5). Assumes nothing.
use Prim.Native.Nat.{ℕ, ◌+◌}
use mathlib.Core.List.{List}
use lib.Dec.{leb→le}
use lib.ListN.{length}
use Rattle.cells.specs.Buffer.{Stays}
use Rattle.cells.proofs.Writing.{call_stays}
use Rattle.unit.specs.Hex.{hex_text, digit_count, write_checks, write_hex, after_hex}
use Rattle.unit.specs.Unit.{write_unit, after_unit}

pub hex-stays : (n at : ℕ) (old : List ℕ) → Stays old at (write_hex n at (length old)).value (after_hex n at old)
unfolding write_hex after_hex write_checks digit_count
hex-stays n at old = call_stays old at (hex_text n) (write_checks n at (length old)) (λ p. leb→le (at + digit_count n) (length old) p.0)

pub unit-stays : (n : ℕ) (old : List ℕ) → Stays old 0 (write_unit n (length old)).value (after_unit n old)
unfolding write_unit after_unit
unit-stays n old = hex-stays n 0 old
