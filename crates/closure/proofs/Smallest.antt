-- The smallest number that passes a test passes it, and no other that does is smaller. Assumes nothing.
use Prim.Native.Nat.{ℕ, zero, suc, ◌≤◌, ◌<◌, min}
use mathlib.Core.Path.{◌≡◌, refl}
use mathlib.Core.Bool.{Bool, true, false}
use mathlib.Core.Logic.{◌⊎◌, inl, inr, ⊎_elim}
use native.Mathlib.Nat.{not-suc-le-zero, eq-or-lt_of_le, le_of_suc-le-suc}
use native.Mathlib.Omega.{arith}
use native.Mathlib.Decide.{dec_le}
use Rattle.closure.specs.Shortest.{smaller_if, smallest_of}

smaller-le : (a : Bool) (x y : ℕ) → smaller_if a x y ≤ y
smaller-le true x y = omega arith
smaller-le false x y = omega arith

module _ (f : ℕ → ℕ) (p : ℕ → Bool) (top : ℕ) where
  -- s is top, or an f j that passes
  abbrev TopOrOne : ℕ → ℕ → Type 0
  TopOrOne m s = (s ≡ top) ⊎ ((j : ℕ) × (j < m) × (f j ≡ s) × (p (f j) ≡ true))

  pub smallest-is : (m : ℕ) → (smallest_of f p top m ≡ top) ⊎ ((j : ℕ) × (j < m) × (f j ≡ smallest_of f p top m) × (p (f j) ≡ true))
  unfolding smallest_of
  smallest-is zero = inl refl
  smallest-is (suc m) = go (p (f m)) refl (dec_le (f m) (smallest_of f p top m)) (smallest-is m)
    where
      old : TopOrOne m (smallest_of f p top m) → TopOrOne (suc m) (smallest_of f p top m)
      old (inl e) = inl e
      old (inr r) = inr (r.0, omega (arith, r.1), r.2, r.3)

      go : (a : Bool) → p (f m) ≡ a → Dec (f m ≤ smallest_of f p top m) → TopOrOne m (smallest_of f p top m)
          → TopOrOne (suc m) (smaller_if a (f m) (smallest_of f p top m))
      go true q (yes r) ih = inr (m, omega arith, omega arith, q)
      go true q (no r) ih = let e : min (f m) (smallest_of f p top m) ≡ smallest_of f p top m = omega arith in rw e (old ih)
      go false q r ih = old ih

  pub smallest-le : (m j : ℕ) → j < m → p (f j) ≡ true → smallest_of f p top m ≤ f j
  unfolding smallest_of
  smallest-le zero j h e = absurd (not-suc-le-zero h)
  smallest-le (suc m) j h e =
      ⊎_elim (λ q. here q) (λ l. omega (arith, smallest-le m j l e, smaller-le (p (f m)) (f m) (smallest_of f p top m))) (eq-or-lt_of_le (le_of_suc-le-suc h))
    where
      here : j ≡ m → smaller_if (p (f m)) (f m) (smallest_of f p top m) ≤ f j
      here q = let e' : p (f m) ≡ true = rw q at e in rw (e', q) (omega arith)
