-- Laws of the first position below a bound that passes a test. Assumes nothing.
use Prim.Native.Nat.{ℕ, zero, suc, ◌<◌}
use mathlib.Core.Path.{◌≡◌, refl, ap}
use mathlib.Core.Bool.{Bool, true, false, cond}
use native.Mathlib.Decide.{dec_lt}
use native.Mathlib.Nat.{not-suc-le-zero, le_of_suc-le-suc}
use native.Mathlib.Omega.{arith}
use Rattle.std.specs.Prelude.{Option, None, Some}
use Rattle.positions.specs.Below.{from_before, first_that}
use Rattle.positions.proofs.BelowLaws.{no_way}

-- a position that passes, where none before it does; or none, where none passes
abbrev pub IsFirst : ℕ → (ℕ → Bool) → Option ℕ → Type 0
IsFirst n p None = (i : ℕ) → i < n → p i ≡ false
IsFirst n p (Some r) = (r < n) × (p r ≡ true) × ((i : ℕ) → i < r → p i ≡ false)

before-next : (r : ℕ) (p : ℕ → Bool) → p 0 ≡ false → ((i : ℕ) → i < r → p (suc i) ≡ false) → (i : ℕ) → i < suc r → p i ≡ false
before-next r p e f zero h = e
before-next r p e f (suc i) h = f i (le_of_suc-le-suc h)

first-later : (n : ℕ) (p : ℕ → Bool) (r : Option ℕ) → p 0 ≡ false → IsFirst n (λ i. p (suc i)) r → IsFirst (suc n) p (from_before r)
first-later n p None e f = before-next n p e f
first-later n p (Some r) e f = (omega (arith, f.0), f.1, before-next r p e f.2)

-- the definition's is so
pub first-that : (n : ℕ) (p : ℕ → Bool) → IsFirst n p (first_that n p)
unfolding first_that
first-that zero p = λ i h. absurd (not-suc-le-zero h)
first-that (suc n) p = go (p 0) refl (first-that n (λ i. p (suc i)))
  where
    rest : Option ℕ
    rest = first_that n (λ i. p (suc i))

    go : (b : Bool) → p 0 ≡ b → IsFirst n (λ i. p (suc i)) rest → IsFirst (suc n) p (cond b (Some 0) (from_before rest))
    go true e f = (omega arith, e, λ i h. absurd (not-suc-le-zero h))
    go false e f = first-later n p rest e f

-- and no other
only-first : (n : ℕ) (p : ℕ → Bool) (r s : Option ℕ) → IsFirst n p r → IsFirst n p s → r ≡ s
only-first n p None None f g = refl
only-first n p None (Some s) f g = no_way (p s) g.1 (f s g.0)
only-first n p (Some r) None f g = no_way (p r) f.1 (g r f.0)
only-first n p (Some r) (Some s) f g = go (dec_lt r s) (dec_lt s r)
  where
    go : Dec (r < s) → Dec (s < r) → Some r ≡ Some s
    go (yes l) _ = no_way (p r) f.1 (g.2 r l)
    go (no l) (yes m) = no_way (p s) g.1 (f.2 s m)
    go (no l) (no m) = let e : r ≡ s = omega arith in ap (λ (i : ℕ). Some i) e

pub first-is : (n : ℕ) (p : ℕ → Bool) {r : Option ℕ} → IsFirst n p r → r ≡ first_that n p
first-is n p {r} f = only-first n p r (first_that n p) f (first-that n p)
