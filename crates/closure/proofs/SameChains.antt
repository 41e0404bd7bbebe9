-- Two graphs of the same dependencies below n, and none that leads out, as far as they are permitted: the same chains below n. Assumes nothing.
use Prim.Native.Nat.{ℕ, zero, suc, ◌≤◌, ◌<◌}
use mathlib.Core.Path.{◌≡◌, refl, ap, ap₂, subst, ◌∙◌}
use mathlib.Core.Bool.{Bool, true, false, not, cond}
use mathlib.Core.List.{List, ◌∷◌}
use native.Mathlib.Omega.{arith}
use Rattle.closure.specs.Graph.{Below}
use Rattle.closure.specs.Enabled.{after_sweeps}
use Rattle.closure.specs.Shortest.{smaller_if, smallest_of, next, chain_within}
use Rattle.closure.proofs.Sweeps.{sweeps-permitted, sweeps-agree}
use Rattle.closure.proofs.Shortest.{next-is}

smallest-same : (f : ℕ → ℕ) (p q : ℕ → Bool) (top m : ℕ) → ((j : ℕ) → j < m → p (f j) ≡ q (f j)) → smallest_of f p top m ≡ smallest_of f q top m
unfolding smallest_of
smallest-same f p q top zero h = refl
smallest-same f p q top (suc m) h =
    ap₂ (λ (b : Bool) (x : ℕ). smaller_if b (f m) x) (h m (omega arith)) (smallest-same f p q top m (λ j l. h j (omega arith)))

module _ (n : ℕ) (num other : ℕ → ℕ) (dep : ℕ → ℕ → ℕ) (p q : ℕ → Bool) (graph : Below n num dep) (same : (i : ℕ) → i < n → p i ≡ q i)
    (alike : (i : ℕ) → i < n → p i ≡ true → num i ≡ other i) (top : ℕ) (fits : n ≤ top) where
  abbrev left : ℕ → ℕ → Bool
  left = after_sweeps num dep p

  abbrev left_other : ℕ → ℕ → Bool
  left_other = after_sweeps other dep q

  abbrev given : ℕ → ℕ → List ℕ
  given = chain_within num dep p top

  abbrev given_other : ℕ → ℕ → List ℕ
  given_other = chain_within other dep q top

  abbrev after : ℕ → ℕ → ℕ
  after = next num dep p top

  abbrev after_other : ℕ → ℕ → ℕ
  after_other = next other dep q top

  sweeps-same : (k i : ℕ) → i < n → left k i ≡ left_other k i
  sweeps-same = sweeps-agree n num other dep p q graph same alike

  next-same : (k i : ℕ) → i < n → p i ≡ true → after k i ≡ after_other k i
  next-same k i l e =
      smallest-same (dep i) (λ d. not (left k d)) (λ d. not (left_other k d)) top (num i)
      (λ j h. ap not (sweeps-same k (dep i j) (graph.below i l j h)))
      ∙ ap (smallest_of (dep i) (λ d. not (left_other k d)) top) (alike i l e)

  -- the chain from a position that k sweeps leave out
  pub chains-agree : (k i : ℕ) → i < n → after_sweeps num dep p k i ≡ false → chain_within num dep p top k i ≡ chain_within other dep q top k i
  unfolding chain_within
  chains-agree zero i l e = refl
  chains-agree (suc k) i l e =
      go (left k i) refl (chains-agree k i l) (chains-agree k)
      ∙ ap (λ (b : Bool). cond b (i ∷ given_other k (after_other k i)) (given_other k i)) (sweeps-same k i l)
    where
      go : (b : Bool) → left k i ≡ b → (left k i ≡ false → given k i ≡ given_other k i)
          → ((d : ℕ) → d < n → left k d ≡ false → given k d ≡ given_other k d)
          → cond b (i ∷ given k (after k i)) (given k i) ≡ cond b (i ∷ given_other k (after_other k i)) (given_other k i)
      go false o short ih = short o
      go true o short ih =
          let w = next-is num dep p top k i (λ j h. let b = graph.below i l j h in omega arith) o e in
          let d = ih (dep i w.0) (graph.below i l w.0 w.1) w.3 in
          ap (λ (c : List ℕ). i ∷ c)
          (subst (λ (x : ℕ). given k x ≡ given_other k x) w.2 d ∙ ap (given_other k) (next-same k i l (sweeps-permitted num dep p k i o)))
