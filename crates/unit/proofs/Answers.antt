-- Equal outcomes are equal answers, so that each promise decides its answer. Assumes nothing.
use mathlib.Core.Path.{◌≡◌}
use Prim.Native.Nat.{ℕ}
use Rattle.std.specs.Prelude.{Result}
use Rattle.refusal.specs.declared.Refusal.{Refusal}
use Rattle.refusal.proofs.Numbers.{same-outcome}
use Rattle.unit.specs.Unit.{hex_outcome, unit_outcome, length_outcome}

pub same-hex : (a b : Result ℕ Refusal) → hex_outcome a ≡ hex_outcome b → a ≡ b
same-hex = same-outcome (λ n. n) 0 (λ a b e. e)

pub same-unit : (a b : Result ℕ Refusal) → unit_outcome a ≡ unit_outcome b → a ≡ b
same-unit = same-outcome (λ n. n) 0 (λ a b e. e)

pub same_length : (a b : Result ℕ Refusal) → length_outcome a ≡ length_outcome b → a ≡ b
same_length = same-outcome (λ n. n) 0 (λ a b e. e)
