-- The chain that is reported for a position left out, by the number of sweeps that leave it out (document 01, "Permitted and enabled").
use Rattle.std.specs.Prelude.{ℕ, zero, suc, min, Bool, true, false, not, cond, List, [], ◌∷◌}
use Rattle.closure.specs.Enabled.{after_sweeps}

-- the smaller of two where the first counts, else the second
abbrev pub smaller_if : Bool → ℕ → ℕ → ℕ
smaller_if true a b = min a b
smaller_if false a b = b

-- "the smallest positions": the smallest f j that passes a test, for j below m; top where none below top does
unfoldable pub smallest_of : (ℕ → ℕ) → (ℕ → Bool) → ℕ → ℕ → ℕ
smallest_of f p top zero = top
smallest_of f p top (suc m) = smaller_if (p (f m)) (f m) (smallest_of f p top m)

-- "each next is a dependency of the one before": the smallest dependency of i that k sweeps leave out
abbrev pub next : (ℕ → ℕ) → (ℕ → ℕ → ℕ) → (ℕ → Bool) → ℕ → ℕ → ℕ → ℕ
next num dep permitted top k i = smallest_of (dep i) (λ d. not (after_sweeps num dep permitted k d)) top (num i)

-- "The shortest is given": the chain from a position that k sweeps leave out, of at most k + 1 positions
unfoldable pub chain_within : (ℕ → ℕ) → (ℕ → ℕ → ℕ) → (ℕ → Bool) → ℕ → ℕ → ℕ → List ℕ
chain_within num dep permitted top zero i = i ∷ []
chain_within num dep permitted top (suc k) i =
    cond (after_sweeps num dep permitted k i) (i ∷ chain_within num dep permitted top k (next num dep permitted top k i)) (chain_within num dep permitted top k i)

-- "For each feature left out, the chain reported" (demand 3): among n positions, with n at most top
abbrev pub shortest_chain : (ℕ → ℕ) → (ℕ → ℕ → ℕ) → (ℕ → Bool) → ℕ → ℕ → ℕ → List ℕ
shortest_chain num dep permitted top n i = chain_within num dep permitted top n i
