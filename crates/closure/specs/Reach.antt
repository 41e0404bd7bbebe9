-- The positions that a position reaches, and the enabled set by them (document 01, "Permitted and enabled").
use Rattle.std.specs.Prelude.{ℕ, zero, suc, ◌<◌, Bool, not, ◌||◌, eqb}
use Rattle.positions.specs.Below.{every, some}

module _ (num : ℕ → ℕ) (dep : ℕ → ℕ → ℕ) where
  -- "for each feature itself and all it needs, directly or not", as a relation
  pub data Needs : ℕ → ℕ → Type 0 where
    self : {i : ℕ} → Needs i i
    via : {i t : ℕ} (j : ℕ) → j < num i → Needs (dep i j) t → Needs i t

-- "the reach table": t is i, or is reached from i by at most k dependencies
unfoldable pub reach : (ℕ → ℕ) → (ℕ → ℕ → ℕ) → ℕ → ℕ → ℕ → Bool
reach num dep zero i t = eqb i t
reach num dep (suc k) i t = eqb i t || some (num i) (λ j. reach num dep k (dep i j) t)

-- "enables a feature when its row holds only permitted ones, in any rows it is handed": rows of n positions
abbrev pub enabled_by_reach : (ℕ → ℕ → Bool) → (ℕ → Bool) → ℕ → ℕ → Bool
enabled_by_reach rows permitted n i = every n (λ t. not (rows i t) || permitted t)
