-- What is left after k sweeps: permitted positions, whose dependencies were left by the sweep before. Assumes nothing.
use Prim.Native.Nat.{ℕ, zero, suc, ◌<◌}
use mathlib.Core.Path.{◌≡◌, refl, sym, ap, ap₂, ◌∙◌}
use mathlib.Core.Bool.{Bool, true, false, ◌&&◌}
use Rattle.positions.specs.Below.{every}
use Rattle.positions.proofs.BelowLaws.{and_left, and_right, and-false, every-at, every_of, every-not, every-same}
use Rattle.closure.specs.Graph.{Below}
use Rattle.closure.specs.Enabled.{after_sweeps, Within, Closed}

pub and-true : (b : Bool) → b && true ≡ b
and-true true = refl
and-true false = refl

module _ (num : ℕ → ℕ) (dep : ℕ → ℕ → ℕ) (permitted : ℕ → Bool) where
  abbrev left : ℕ → ℕ → Bool
  left = after_sweeps num dep permitted

  pub sweeps-permitted : (k i : ℕ) → after_sweeps num dep permitted k i ≡ true → permitted i ≡ true
  unfolding after_sweeps
  sweeps-permitted zero i e = e
  sweeps-permitted (suc k) i e = and_left (permitted i) (every (num i) (λ j. left k (dep i j))) e

  pub sweeps-dependencies : (k i : ℕ) → after_sweeps num dep permitted (suc k) i ≡ true → (j : ℕ) → j < num i → after_sweeps num dep permitted k (dep i j) ≡ true
  unfolding after_sweeps
  sweeps-dependencies k i e = every-at (num i) (λ j. left k (dep i j)) (and_right (permitted i) (every (num i) (λ j. left k (dep i j))) e)

  pub sweeps-of : (k i : ℕ) → permitted i ≡ true → ((j : ℕ) → j < num i → after_sweeps num dep permitted k (dep i j) ≡ true)
      → after_sweeps num dep permitted (suc k) i ≡ true
  unfolding after_sweeps
  sweeps-of k i e f = rw (e, every_of (num i) (λ j. left k (dep i j)) f)

  -- a position with a dependency that is out is taken out
  pub sweeps-not : (k i j : ℕ) → j < num i → after_sweeps num dep permitted k (dep i j) ≡ false → after_sweeps num dep permitted (suc k) i ≡ false
  unfolding after_sweeps
  sweeps-not k i j h e = rw (every-not (num i) (λ j. left k (dep i j)) j h e) (and-false (permitted i))

  -- a sweep takes members out and adds none
  pub sweeps-fewer : (k i : ℕ) → after_sweeps num dep permitted (suc k) i ≡ true → after_sweeps num dep permitted k i ≡ true
  unfolding after_sweeps
  sweeps-fewer zero i e = sweeps-permitted 1 i e
  sweeps-fewer (suc k) i e = sweeps-of k i (sweeps-permitted (suc (suc k)) i e) (λ j h. sweeps-fewer k (dep i j) (sweeps-dependencies (suc k) i e j h))

  -- no sweep takes out a member of a closed set of permitted positions
  pub sweeps-largest : (n : ℕ) → Below n num dep → (s : ℕ → Bool) → Within n s permitted → Closed n num dep s → (k : ℕ)
      → Within n s (after_sweeps num dep permitted k)
  unfolding after_sweeps
  sweeps-largest n graph s f c zero i l e = f i l e
  sweeps-largest n graph s f c (suc k) i l e =
      sweeps-of k i (f i l e) (λ j h. sweeps-largest n graph s f c k (dep i j) (graph.below i l j h) (c i l e j h))

-- two graphs of the same dependencies below n, and none that leads out, as far as they are permitted: the same sweeps below n
module _ (n : ℕ) (num other : ℕ → ℕ) (dep : ℕ → ℕ → ℕ) (p q : ℕ → Bool) (graph : Below n num dep) (same : (i : ℕ) → i < n → p i ≡ q i)
    (alike : (i : ℕ) → i < n → p i ≡ true → num i ≡ other i) where
  pub sweeps-agree : (k i : ℕ) → i < n → after_sweeps num dep p k i ≡ after_sweeps other dep q k i
  unfolding after_sweeps
  sweeps-agree zero i l = same i l
  sweeps-agree (suc k) i l = go (λ j h. sweeps-agree k (dep i j) (graph.below i l j h)) (p i) refl
    where
      go : ((j : ℕ) → j < num i → after_sweeps num dep p k (dep i j) ≡ after_sweeps other dep q k (dep i j)) → (b : Bool) → p i ≡ b
          → (p i && every (num i) (λ j. after_sweeps num dep p k (dep i j))) ≡ (q i && every (other i) (λ j. after_sweeps other dep q k (dep i j)))
      go f false e = rw (e, sym (same i l) ∙ e)
      go f true e =
          ap₂ ◌&&◌ (same i l)
          (every-same (num i) (λ j. after_sweeps num dep p k (dep i j)) (λ j. after_sweeps other dep q k (dep i j)) f
          ∙ ap (λ (m : ℕ). every m (λ j. after_sweeps other dep q k (dep i j))) (alike i l e))
