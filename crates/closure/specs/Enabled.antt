-- The enabled set (document 01, "Permitted and enabled"), for any graph of dependencies and any set of permitted positions.
use Rattle.std.specs.Prelude.{ℕ, zero, suc, ◌<◌, ◌≡◌, Bool, true, ◌&&◌}
use Rattle.positions.specs.Below.{every}

-- "the plain sweep": what is left after k sweeps, each of which takes out the positions with a dependency that is already out
unfoldable pub after_sweeps : (ℕ → ℕ) → (ℕ → ℕ → ℕ) → (ℕ → Bool) → ℕ → ℕ → Bool
after_sweeps num dep permitted zero i = permitted i
after_sweeps num dep permitted (suc k) i = permitted i && every (num i) (λ j. after_sweeps num dep permitted k (dep i j))

-- "the plain sweep works this out": among n positions, what is left after n sweeps
abbrev pub enabled : (ℕ → ℕ) → (ℕ → ℕ → ℕ) → (ℕ → Bool) → ℕ → ℕ → Bool
enabled num dep permitted n i = after_sweeps num dep permitted n i

-- "lies inside it": each member of s below n is a member of t
abbrev pub Within : ℕ → (ℕ → Bool) → (ℕ → Bool) → Type 0
Within n s t = (i : ℕ) → i < n → s i ≡ true → t i ≡ true

-- "closed under dependencies, that is, with each member's dependencies among its members"
abbrev pub Closed : ℕ → (ℕ → ℕ) → (ℕ → ℕ → ℕ) → (ℕ → Bool) → Type 0
Closed n num dep s = (i : ℕ) → i < n → s i ≡ true → (j : ℕ) → j < num i → s (dep i j) ≡ true

-- "the largest set of permitted features closed under dependencies": "every other such set lies inside it"
pub record Largest (num : ℕ → ℕ) (dep : ℕ → ℕ → ℕ) (permitted : ℕ → Bool) (n : ℕ) (s : ℕ → Bool) : Type 0 where
  pub permitted_only : Within n s permitted
  pub closed : Closed n num dep s
  pub largest : (t : ℕ → Bool) → Within n t permitted → Closed n num dep t → Within n t s
