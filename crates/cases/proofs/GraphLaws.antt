-- Two graphs of the same dependencies below n, and none that leads out: the same reach below n. Assumes nothing.
use Prim.Native.Nat.{ℕ, zero, suc, ◌<◌}
use mathlib.Core.Path.{◌≡◌, refl, ap, ap₂, ◌∙◌}
use mathlib.Core.Bool.{Bool, ◌||◌}
use native.Mathlib.Omega.{arith}
use lib.Dec.{eqb}
use Rattle.positions.specs.Below.{some}
use Rattle.closure.specs.Graph.{Below}
use Rattle.closure.specs.Reach.{reach}

-- tests that agree below a bound
pub some_same : (n : ℕ) (p q : ℕ → Bool) → ((i : ℕ) → i < n → p i ≡ q i) → some n p ≡ some n q
unfolding some
some_same zero p q f = refl
some_same (suc n) p q f = ap₂ ◌||◌ (some_same n p q (λ i h. f i (omega arith))) (f n (omega arith))

module _ (n : ℕ) (num other : ℕ → ℕ) (dep : ℕ → ℕ → ℕ) (graph : Below n num dep) (alike : (i : ℕ) → i < n → num i ≡ other i) where
  pub reach-same : (k i t : ℕ) → i < n → reach num dep k i t ≡ reach other dep k i t
  unfolding reach
  reach-same zero i t l = refl
  reach-same (suc k) i t l =
      ap (λ (b : Bool). eqb i t || b)
      (some_same (num i) (λ j. reach num dep k (dep i j) t) (λ j. reach other dep k (dep i j) t) (λ j h. reach-same k (dep i j) t (graph.below i l j h))
      ∙ ap (λ (m : ℕ). some m (λ j. reach other dep k (dep i j) t)) (alike i l))
