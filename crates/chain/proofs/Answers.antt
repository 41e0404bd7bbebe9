-- Equal outcomes are equal answers, so that the promise decides the answer. Assumes nothing.
use Prim.Native.Nat.{ℕ}
use mathlib.Core.Path.{◌≡◌}
use Rattle.std.specs.Prelude.{Result}
use Rattle.refusal.proofs.Numbers.{same-outcome}
use Rattle.refusal.specs.declared.Refusal.{Refusal}
use Rattle.chain.specs.Chain.{chain_outcome}

pub same-told : (a b : Result ℕ Refusal) → chain_outcome a ≡ chain_outcome b → a ≡ b
same-told = same-outcome (λ (n : ℕ). n) 0 (λ a b e. e)
