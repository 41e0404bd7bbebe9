-- Laws of the bits of numbers. Assumes nothing.
use Prim.Native.Nat.{ℕ, zero, suc, ◌+◌, ◌-◌, ◌/◌, ◌%◌, ◌^◌, ◌≤◌, ◌<◌, min, max}
use mathlib.Core.Path.{◌≡◌, refl, sym, ap, ap₂, ◌∙◌}
use mathlib.Core.Bool.{false, not, ◌&&◌, ◌||◌}
use native.Mathlib.Nat.{lt_of_lt_of_le, div-eq_of_lt, zero-min, min-zero, suc-min-suc, zero-max, max-zero, suc-max-suc, pow-suc, mul_comm, div-div-eq-div-mul, div-one, zero-add}
use native.Mathlib.Numerals.{one-add}
use native.Mathlib.Omega.{arith}
use lib.Arith.{digits_mod, lt-one}
use lib.Bits.{bit_and, bit_or, and_step, or_step, and_shr, or_shr}
use lib.Count.{ones, ones_step}
use lib.Pow.{pow_mono, pow-add, field, mod-mod-pow}
use lib.Dec.{eqb, eqb-zero-suc, eqb-suc-zero, eqb-suc-suc}
use Rattle.positions.specs.Below.{one_if, count}
use Rattle.positions.specs.Bits.{bit, not_zero}
use Rattle.positions.proofs.BelowLaws.{no_way, count_same, count_add}

not-zero-min : (a b : ℕ) → not_zero (min a b) ≡ not_zero a && not_zero b
not-zero-min zero b = rw zero-min
not-zero-min (suc a) zero = rw min-zero
not-zero-min (suc a) (suc b) = rw suc-min-suc

not-zero-max : (a b : ℕ) → not_zero (max a b) ≡ not_zero a || not_zero b
not-zero-max zero b = rw zero-max
not-zero-max (suc a) zero = rw max-zero
not-zero-max (suc a) (suc b) = rw suc-max-suc

and-odd : (a b : ℕ) → bit_and a b % 2 ≡ min (a % 2) (b % 2)
and-odd a b = rw (and_step a b) (digits_mod (bit_and (a / 2) (b / 2)) (omega arith))

or-odd : (a b : ℕ) → bit_or a b % 2 ≡ max (a % 2) (b % 2)
or-odd a b = rw (or_step a b) (digits_mod (bit_or (a / 2) (b / 2)) (omega arith))

pub bit-and : (a b i : ℕ) → bit (bit_and a b) i ≡ bit a i && bit b i
unfolding bit
bit-and a b i = rw (and_shr a b i, and-odd) (not-zero-min (a / 2 ^ i % 2) (b / 2 ^ i % 2))

pub bit-or : (a b i : ℕ) → bit (bit_or a b) i ≡ bit a i || bit b i
unfolding bit
bit-or a b i = rw (or_shr a b i, or-odd) (not-zero-max (a / 2 ^ i % 2) (b / 2 ^ i % 2))

not-eqb-zero : (x : ℕ) → not (eqb x 0) ≡ not_zero x
not-eqb-zero zero = refl
not-eqb-zero (suc x) = ap not (eqb-suc-zero x)

-- a bit as the code tests it
pub bit_test : (x i : ℕ) → not (eqb (x / 2 ^ i % 2) 0) ≡ bit x i
unfolding bit
bit_test x i = not-eqb-zero (x / 2 ^ i % 2)

-- no bit stands past the highest
pub bit_past : (x k i : ℕ) → x < 2 ^ k → k ≤ i → bit x i ≡ false
unfolding bit
bit_past x k i h l = rw (div-eq_of_lt (lt_of_lt_of_le h (pow_mono l)))

-- bits from the lowest
pub bit-zero : (x : ℕ) → bit x 0 ≡ not_zero (x % 2)
unfolding bit
bit-zero x = ap (λ (y : ℕ). not_zero (y % 2)) (div-one x)

pub bit-suc : (x i : ℕ) → bit x (suc i) ≡ bit (x / 2) i
unfolding bit
bit-suc x i = rw (pow-suc, mul_comm (2 ^ i) 2, ← (div-div-eq-div-mul x 2 (2 ^ i)))

-- the bits of the two parts of a word
pub bit-low : (x k i : ℕ) → i < k → bit (x % 2 ^ k) i ≡ bit x i
unfolding bit
bit-low x k i h =
    let j : ℕ = k - i - 1 in
    let e : k ≡ j + 1 + i = omega arith in
    ap not_zero (ap (λ (n : ℕ). x % 2 ^ n / 2 ^ i % 2) e ∙ ap (λ (n : ℕ). n % 2) (field x (j + 1) i) ∙ mod-mod-pow (x / 2 ^ i) j 1)

pub bit_high : (x k i : ℕ) → bit (x / 2 ^ k) i ≡ bit x (k + i)
unfolding bit
bit_high x k i = ap (λ (n : ℕ). not_zero (n % 2)) (div-div-eq-div-mul x (2 ^ k) (2 ^ i) ∙ ap (λ (n : ℕ). x / n) (sym (pow-add 2 k i)))

pub bit-none : (i : ℕ) → bit 0 i ≡ false
bit-none zero = bit-zero 0
bit-none (suc i) = bit-suc 0 i ∙ bit-none i

pub bit-pow : (s i : ℕ) → bit (2 ^ s) i ≡ eqb s i
bit-pow zero zero = bit-zero 1
bit-pow zero (suc i) = bit-suc 1 i ∙ bit-none i ∙ sym (eqb-zero-suc i)
bit-pow (suc s) zero = let e : 2 ^ suc s % 2 ≡ 0 = omega arith in rw (bit-zero (2 ^ suc s), e, eqb-suc-zero s)
bit-pow (suc s) (suc i) = let e : 2 ^ suc s / 2 ≡ 2 ^ s = omega arith in rw (bit-suc (2 ^ suc s) i, e, eqb-suc-suc s i) (bit-pow s i)

not-zero-not : (a : ℕ) → a < 2 → not_zero (1 - a) ≡ not (not_zero a)
not-zero-not zero h = refl
not-zero-not (suc a) h = let e : 1 - suc a ≡ 0 = omega arith in rw e

-- the bits of `!a`
pub bit_not : (k a i : ℕ) → a < 2 ^ k → i < k → bit (2 ^ k - 1 - a) i ≡ not (bit a i)
bit_not zero a i h l = absurd (omega arith)
bit_not (suc k) a zero h l =
    let e : (2 ^ suc k - 1 - a) % 2 ≡ 1 - a % 2 = omega arith in rw (bit-zero (2 ^ suc k - 1 - a), e, bit-zero a) (not-zero-not (a % 2) (omega arith))
bit_not (suc k) a (suc i) h l =
    let e : (2 ^ suc k - 1 - a) / 2 ≡ 2 ^ k - 1 - a / 2 = omega arith in
    rw (bit-suc (2 ^ suc k - 1 - a) i, e, bit-suc a i) (bit_not k (a / 2) i (omega arith) (omega arith))

not-zero-eq : (a b : ℕ) → a < 2 → b < 2 → not_zero a ≡ not_zero b → a ≡ b
not-zero-eq zero zero h l e = refl
not-zero-eq zero (suc b) h l e = no_way false e refl
not-zero-eq (suc a) zero h l e = no_way false (sym e) refl
not-zero-eq (suc a) (suc b) h l e = omega arith

-- two numbers of k bits with the same bits are equal
pub bit-ext : (k a b : ℕ) → a < 2 ^ k → b < 2 ^ k → ((i : ℕ) → i < k → bit a i ≡ bit b i) → a ≡ b
bit-ext zero a b h l f = omega arith
bit-ext (suc k) a b h l f =
    let low = not-zero-eq (a % 2) (b % 2) (omega arith) (omega arith) (sym (bit-zero a) ∙ f 0 (omega arith) ∙ bit-zero b) in
    let high = bit-ext k (a / 2) (b / 2) (omega arith) (omega arith) (λ i q. sym (bit-suc a i) ∙ f (suc i) (omega arith) ∙ bit-suc b i) in
    omega arith

not-zero-one : (a : ℕ) → a < 2 → one_if (not_zero a) ≡ a
not-zero-one zero h = refl
not-zero-one (suc a) h = omega arith

-- the count of ones is the number of set bits
pub ones-count : (k x : ℕ) → x < 2 ^ k → ones x ≡ count k (bit x)
unfolding count ones
ones-count zero x h = ap ones (lt-one h)
ones-count (suc k) x h =
    ones_step x
    ∙ ap₂ (λ (p q : ℕ). p + q) (sym (not-zero-one (x % 2) (omega arith)) ∙ ap one_if (sym (bit-zero x)))
    (ones-count k (x / 2) (omega arith) ∙ count_same k (bit (x / 2)) (λ i. bit x (1 + i)) (λ i _. sym (ap (bit x) (one-add i) ∙ bit-suc x i)))
    ∙ sym (ap (λ (m : ℕ). count m (bit x)) (sym (one-add k)) ∙ count_add 1 k (bit x) ∙ ap (λ (y : ℕ). y + count k (λ i. bit x (1 + i))) (zero-add (one_if (bit x 0))))
