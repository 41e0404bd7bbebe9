-- Equal outcomes are equal answers, so that the promise decides its answer. Assumes nothing.
use Rattle.std.specs.Prelude.{ℕ, ◌≡◌, Result}
use Rattle.refusal.proofs.Numbers.{same-placed}
use Rattle.refusal.specs.declared.RefusedAt.{RefusedAt}
use Rattle.properties.specs.Properties.{properties_outcome}

pub same-properties : (a b : Result ℕ RefusedAt) → properties_outcome a ≡ properties_outcome b → a ≡ b
same-properties a b e = same-placed (λ (n : ℕ). n) 0 (λ x y e. e) a b e
