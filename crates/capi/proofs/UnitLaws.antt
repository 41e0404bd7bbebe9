-- The text of a unit number has at most eight characters. Assumes nothing.
use mathlib.Core.Path.{◌≡◌, sym, subst}
use Prim.Native.Nat.{ℕ, ◌≤◌, ◌<◌, ◌^◌}
use native.Mathlib.Omega.{arith}
use Rattle.refusal.specs.Refusal.{Outcome}
use Rattle.refusal.proofs.Checks.{outcome-holds}
use Rattle.unit.specs.Hex.{digit_count, write_checks, write_hex}
use Rattle.unit.specs.Unit.{write_unit}
use Rattle.unit.proofs.Digits.{count-least}

write-short : (n room : ℕ) → n < 2 ^ 32 → (write_unit n room).value ≤ 8
unfolding write_unit write_hex
write-short n room h =
    outcome-holds (λ (length : ℕ). length ≤ 8) 0 (digit_count n) (write_checks n 0 room) (omega arith) (λ _. count-least 7 n h)

-- of an answer
pub length-short : (n room : ℕ) {o : Outcome ℕ} → n < 2 ^ 32 → o ≡ write_unit n room → o.value ≤ 8
length-short n room h e = subst (λ (x : Outcome ℕ). x.value ≤ 8) (sym e) (write-short n room h)
