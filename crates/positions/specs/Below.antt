-- Tests of the positions below a bound.
use Rattle.std.specs.Prelude.{ℕ, zero, suc, ◌+◌, Bool, true, false, ◌&&◌, ◌||◌, cond, Option, None, Some}

-- every position below n passes a test
unfoldable pub every : ℕ → (ℕ → Bool) → Bool
every zero p = true
every (suc n) p = every n p && p n

-- some position below n passes a test
unfoldable pub some : ℕ → (ℕ → Bool) → Bool
some zero p = false
some (suc n) p = some n p || p n

abbrev pub one_if : Bool → ℕ
one_if true = 1
one_if false = 0

-- how many positions below n pass a test
unfoldable pub count : ℕ → (ℕ → Bool) → ℕ
count zero p = 0
count (suc n) p = count n p + one_if (p n)

-- a position, counted from one position earlier
abbrev pub from_before : Option ℕ → Option ℕ
from_before None = None
from_before (Some i) = Some (suc i)

-- the first position below n that passes a test, if one does
unfoldable pub first_that : ℕ → (ℕ → Bool) → Option ℕ
first_that zero p = None
first_that (suc n) p = cond (p zero) (Some zero) (from_before (first_that n (λ i. p (suc i))))

-- there is one
abbrev pub is_somewhere : Option ℕ → Bool
is_somewhere None = false
is_somewhere (Some i) = true
