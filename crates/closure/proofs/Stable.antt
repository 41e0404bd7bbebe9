-- Among n positions no sweep after the first n - 1 takes any out. Assumes nothing.
use Prim.Native.Nat.{ℕ, zero, suc, ◌+◌, ◌≤◌, ◌<◌}
use mathlib.Core.Path.{◌≡◌, refl, sym, ap, ◌∙◌}
use mathlib.Core.Bool.{Bool, true, false, ◌&&◌}
use mathlib.Core.Logic.{◌⊎◌, inl, inr, ⊎_elim}
use native.Mathlib.Decide.{le_ind, dec_lt}
use native.Mathlib.Omega.{arith}
use Rattle.positions.specs.Below.{count}
use Rattle.positions.proofs.BelowLaws.{no_way, every-same, count-eq, count-zero}
use Rattle.closure.specs.Graph.{Below}
use Rattle.closure.specs.Enabled.{after_sweeps}
use Rattle.closure.proofs.Sweeps.{sweeps-of, sweeps-fewer}

count-all : (n : ℕ) → count n (λ i. true) ≡ n
unfolding count
count-all zero = refl
count-all (suc n) = omega (arith, count-all n)

module _ (num : ℕ → ℕ) (dep : ℕ → ℕ → ℕ) (permitted : ℕ → Bool) (n : ℕ) (graph : Below n num dep) where
  abbrev left : ℕ → ℕ → Bool
  left = after_sweeps num dep permitted

  -- the sweep after k sweeps takes no position below n out
  abbrev Stable : ℕ → Type 0
  Stable k = (i : ℕ) → i < n → left (suc k) i ≡ left k i

  stable-next : (k : ℕ) → Stable k → Stable (suc k)
  unfolding after_sweeps
  stable-next k st i h =
      ap (λ (b : Bool). permitted i && b) (every-same (num i) (λ j. left (suc k) (dep i j)) (λ j. left k (dep i j)) (λ j l. st (dep i j) (graph.below i h j l)))

  -- where all are permitted, none is taken out
  stable-all : n ≤ count n permitted → Stable 0
  unfolding after_sweeps
  stable-all h i l = sweeps-of num dep permitted 0 i (all i l) (λ j q. all (dep i j) (graph.below i l j q)) ∙ sym (all i l)
    where
      all : (i : ℕ) → i < n → permitted i ≡ true
      all = count-eq n permitted (λ i. true) (λ i _ _. refl) (omega (arith, count-all n))

  -- the next sweep takes none out, or each of the k sweeps took one out, and one was not permitted
  stable-or-fewer : (k : ℕ) → Stable k ⊎ (count n (left k) + suc k ≤ n)
  unfolding after_sweeps
  stable-or-fewer zero = go (dec_lt (count n permitted) n)
    where
      go : Dec (count n permitted < n) → Stable 0 ⊎ (count n permitted + 1 ≤ n)
      go (yes h) = inr (omega arith)
      go (no h) = inl (stable-all (omega arith))
  stable-or-fewer (suc k) = ⊎_elim (λ st. inl (stable-next k st)) (λ h. go h (dec_lt (count n (left (suc k))) (count n (left k)))) (stable-or-fewer k)
    where
      go : count n (left k) + suc k ≤ n → Dec (count n (left (suc k)) < count n (left k)) → Stable (suc k) ⊎ (count n (left (suc k)) + suc (suc k) ≤ n)
      go h (yes l) = inr (omega arith)
      go h (no l) = inl (stable-next k (count-eq n (left (suc k)) (left k) (λ i _. sweeps-fewer num dep permitted k i) (omega arith)))

  pub stable : (k : ℕ) → n ≤ suc k → (i : ℕ) → i < n → after_sweeps num dep permitted (suc k) i ≡ after_sweeps num dep permitted k i
  stable k m = ⊎_elim (λ st. st) (λ h i l. none i (count-zero n (left k) (omega arith) i l)) (stable-or-fewer k)
    where
      none : (i : ℕ) → left k i ≡ false → left (suc k) i ≡ left k i
      none i e = go (left (suc k) i) refl
        where
          go : (b : Bool) → left (suc k) i ≡ b → left (suc k) i ≡ left k i
          go true q = no_way (left k i) (sweeps-fewer num dep permitted k i q) e
          go false q = q ∙ sym e

  -- more than n sweeps leave what n sweeps leave
  pub sweeps-more : (k : ℕ) → n ≤ k → (i : ℕ) → i < n → after_sweeps num dep permitted k i ≡ after_sweeps num dep permitted n i
  sweeps-more k h i l = le_ind (λ (m : ℕ). left m i ≡ left n i) refl (λ m q e. stable m (omega arith) i l ∙ e) k h
