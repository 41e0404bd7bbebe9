-- Chains of dependencies that lead to an unpermitted position (document 01, "Permitted and enabled").
use Rattle.std.specs.Prelude.{ℕ, ◌≤◌, ◌<◌, ◌≡◌, Bool, false, List, [], ◌∷◌, ◌⊎◌, length}

-- "the one with the smallest positions, compared from the front": x is y or comes before it
abbrev pub NotAfter : List ℕ → List ℕ → Type 0
NotAfter [] y = Unit {0}
NotAfter (a ∷ x) [] = ⊥
NotAfter (a ∷ x) (b ∷ y) = (a < b) ⊎ ((a ≡ b) × NotAfter x y)

module _ (num : ℕ → ℕ) (dep : ℕ → ℕ → ℕ) (permitted : ℕ → Bool) where
  -- "A chain starts at the feature asked about, each next is a dependency of the one before, the last is unpermitted"
  pub data Chain : ℕ → List ℕ → Type 0 where
    end : {i : ℕ} → permitted i ≡ false → Chain i (i ∷ [])
    link : {i : ℕ} {c : List ℕ} (j : ℕ) → j < num i → Chain (dep i j) c → Chain i (i ∷ c)

-- "Its length is the number of its positions, repeats counted"
abbrev pub chain_length : List ℕ → ℕ
chain_length c = length c

-- "The shortest is given: every other chain from that feature is at least as long"
pub record Shortest (num : ℕ → ℕ) (dep : ℕ → ℕ → ℕ) (permitted : ℕ → Bool) (i : ℕ) (c : List ℕ) : Type 0 where
  pub chain : Chain num dep permitted i c
  pub shortest : (d : List ℕ) → Chain num dep permitted i d → chain_length c ≤ chain_length d

-- "Among equally short ones it is the one with the smallest positions, compared from the front"
pub record Smallest (num : ℕ → ℕ) (dep : ℕ → ℕ → ℕ) (permitted : ℕ → Bool) (i : ℕ) (c : List ℕ) : Type 0 where
  pub short : Shortest num dep permitted i c
  pub smallest : (d : List ℕ) → Chain num dep permitted i d → chain_length d ≡ chain_length c → NotAfter c d
