-- Checks in order end with an answer or with the number of one of them, and a refusal keeps a lent buffer. Assumes nothing.
use Prim.Native.Nat.{ℕ}
use mathlib.Core.Path.{◌≡◌, refl, subst, ◌∙◌}
use mathlib.Core.Bool.{Bool, true, false, ◌&&◌, ◌||◌}
use mathlib.Core.List.{List, [], ◌∷◌, ◌++◌}
use lib.Dec.{eqb}
use Rattle.refusal.specs.Refusal.{Outcome, answer, refuse}
use Rattle.refusal.specs.Checks.{Check, first_fault, fault_of}
use Rattle.refusal.proofs.Checks.{fault-refuses, outcome-number}
use Rattle.cells.specs.Buffer.{written, after_writing}
use Rattle.positions.proofs.BelowLaws.{and_left, and_right}
use Rattle.cases.specs.Ends.{is_one_of, Ends, answered, refused, Keeps}

-- the number of each check is one of some
abbrev pub all_one_of : List ℕ → List (Check ℕ) → Bool
all_one_of numbers [] = true
all_one_of numbers (c ∷ cs) = is_one_of numbers c.fault && all_one_of numbers cs

module _ (numbers : List ℕ) where
  first_one : (c : Check ℕ) (cs : List (Check ℕ)) → all_one_of numbers (c ∷ cs) ≡ true → is_one_of numbers c.fault ≡ true
  first_one c cs h = and_left (is_one_of numbers c.fault) (all_one_of numbers cs) h

  others : (c : Check ℕ) (cs : List (Check ℕ)) → all_one_of numbers (c ∷ cs) ≡ true → all_one_of numbers cs ≡ true
  others c cs h = and_right (is_one_of numbers c.fault) (all_one_of numbers cs) h

  -- of checks and others behind them, and of checks that are there or not
  pub both-one-of : (cs ds : List (Check ℕ)) → all_one_of numbers cs ≡ true → all_one_of numbers ds ≡ true → all_one_of numbers (cs ++ ds) ≡ true
  both-one-of [] ds h k = k
  both-one-of (c ∷ cs) ds h k = rw (first_one c cs h) (both-one-of cs ds (others c cs h) k)

  pub where-one-of : (b : Bool) (cs : List (Check ℕ)) → all_one_of numbers cs ≡ true
      → all_one_of numbers (elim b as (λ _. List (Check ℕ)) [ true ↦ cs | false ↦ [] ]) ≡ true
  where-one-of true cs h = h
  where-one-of false cs h = refl

  module _ {A : Type 0} (zeros value : A) where
    pub checks-end : (cs : List (Check ℕ)) → all_one_of numbers cs ≡ true → Ends numbers zeros (first_fault (refuse zeros) cs (answer value))
    unfolding first_fault
    checks-end [] h = answered value
    checks-end (c ∷ cs) h = go c.holds (first_one c cs h) (checks-end cs (others c cs h))
      where
        go : (b : Bool) → is_one_of numbers c.fault ≡ true → Ends numbers zeros (first_fault (refuse zeros) cs (answer value))
            → Ends numbers zeros
            (elim b as (λ _. Outcome A) [ true ↦ first_fault (refuse zeros) cs (answer value) | false ↦ refuse zeros c.fault ])
        go true k e = e
        go false k e = refused c.fault k

-- where the same checks decide a lent buffer's later bytes
pub checks-keep : {A : Type 0} (zeros value : A) (entry : List ℕ) (at : ℕ) (new : List ℕ) (cs : List (Check ℕ))
    → Keeps (first_fault (refuse zeros) cs (answer value)) entry (after_writing cs entry at new)
unfolding after_writing
checks-keep zeros value entry at new cs h =
    fault-refuses (λ (n : ℕ). entry) cs (written entry at new) (λ e. h (outcome-number zeros value cs ∙ e))

-- the number alone
pub or-true : (b : Bool) → b || true ≡ true
or-true true = refl
or-true false = refl

number_of : {A : Type 0} {numbers : List ℕ} {zeros : A} {o : Outcome A} → Ends numbers zeros o → is_one_of (0 ∷ numbers) o.number ≡ true
number_of (answered value) = refl
number_of (refused n h) = rw h (or-true (eqb n 0))

pub fault-one-of : (numbers : List ℕ) (cs : List (Check ℕ)) → all_one_of numbers cs ≡ true → is_one_of (0 ∷ numbers) (fault_of cs) ≡ true
fault-one-of numbers cs h =
    subst (λ (n : ℕ). is_one_of (0 ∷ numbers) n ≡ true) (outcome-number {A = ℕ} 0 0 cs) (number_of (checks-end numbers {A = ℕ} 0 0 cs h))
