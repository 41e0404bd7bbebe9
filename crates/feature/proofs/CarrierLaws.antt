-- The search for the first position at which a phandle stands. Assumes nothing.
use mathlib.Core.Path.{◌≡◌, sym, ap, ◌∙◌}
use mathlib.Core.Bool.{Bool, true, false}
use mathlib.Core.List.{List}
use Prim.Native.Nat.{ℕ, ◌<◌, ◌≤◌}
use native.Mathlib.Omega.{arith}
use lib.ListN.{length, take, get_or}
use lib.Seq.{get_or-take, length-take-le}
use Rattle.std.specs.Prelude.{Option, None, Some}
use Rattle.std.specs.List.{AllWithin, HoldsAt}
use Rattle.std.specs.Option.{MatchOption}
use Rattle.positions.specs.Below.{first_that}
use Rattle.positions.proofs.FirstLaws.{first-is}

-- what the library's search finds among the first elements of a list is the first position that passes
module _ {A : Type 0} (test : A → Bool) (d : A) (xs : List A) {n : ℕ} (h : n ≤ length xs) where
  abbrev passes : ℕ → Bool
  passes i = test (get_or xs i d)

  abbrev Finds : Option ℕ → Type 0
  Finds r =
      MatchOption r (AllWithin (λ x. test x ≡ false) (take n xs) 0 (length (take n xs)))
      (λ i. (i < length (take n xs)) × HoldsAt (λ x. test x ≡ true) (take n xs) i × AllWithin (λ x. test x ≡ false) (take n xs) 0 i)

  among : (i : ℕ) → i < n → passes i ≡ test (get_or (take n xs) i d)
  among i l = ap test (sym (get_or-take n xs i d l))

  pub finds-first : (r : Option ℕ) → Finds r → r ≡ first_that n passes
  finds-first None f = first-is n passes (λ i l. among i l ∙ f i d (omega arith) (omega (arith, length-take-le n xs h)))
  finds-first (Some r) f =
      let l : r < n = omega (arith, f.0, length-take-le n xs h) in
      first-is n passes (l, among r l ∙ f.1 d, λ i k. among i (omega arith) ∙ f.2 i d (omega arith) k)
