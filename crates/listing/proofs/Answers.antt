-- Equal outcomes are equal answers, so that the promise decides the answer. Assumes nothing.
use mathlib.Core.Path.{◌≡◌}
use Prim.Native.Nat.{ℕ}
use Rattle.std.specs.Prelude.{Result}
use Rattle.refusal.specs.declared.Refusal.{Refusal}
use Rattle.refusal.proofs.Numbers.{same-outcome}
use Rattle.listing.specs.Listing.{line_outcome}

pub same_line : (a b : Result ℕ Refusal) → line_outcome a ≡ line_outcome b → a ≡ b
same_line a b e = same-outcome (λ (n : ℕ). n) 0 (λ x y q. q) a b e
