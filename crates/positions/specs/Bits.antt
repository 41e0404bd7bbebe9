-- The bits of a number, the lowest being bit 0.
use Rattle.std.specs.Prelude.{ℕ, zero, suc, ◌/◌, ◌%◌, ◌^◌, Bool, true, false}

abbrev pub not_zero : ℕ → Bool
not_zero zero = false
not_zero (suc n) = true

unfoldable pub bit : ℕ → ℕ → Bool
bit word i = not_zero (word / 2 ^ i % 2)
