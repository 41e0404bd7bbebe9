-- Laws of tests of the positions below a bound. Assumes nothing.
use Prim.Native.Nat.{ℕ, zero, suc, ◌+◌, ◌≤◌, ◌<◌}
use mathlib.Core.Path.{◌≡◌, refl, sym, ap₂}
use mathlib.Core.Bool.{Bool, true, false, not, ◌&&◌, ◌||◌}
use mathlib.Core.Logic.{⊎_elim}
use native.Mathlib.Nat.{not-suc-le-zero, eq-or-lt_of_le, le_of_suc-le-suc, add-zero, add_assoc, add-suc}
use native.Mathlib.Numerals.{add-one}
use native.Mathlib.Omega.{arith}
use Rattle.positions.specs.Below.{every, some, one_if, count}

pub and_left : (a b : Bool) → a && b ≡ true → a ≡ true
and_left true b e = refl
and_left false b e = e

pub and_right : (a b : Bool) → a && b ≡ true → b ≡ true
and_right true b e = e
and_right false b e = let z : ◌≡◌ {A = ℕ} 0 1 = cc in absurd (omega arith)

pub and-false : (b : Bool) → b && false ≡ false
and-false true = refl
and-false false = refl

-- no truth value is both
pub no_way {ℓ} : {A : Type ℓ} (b : Bool) → b ≡ true → b ≡ false → A
no_way b p q = let z : ◌≡◌ {A = ℕ} 0 1 = cc in absurd (omega arith)

pub every-at : (n : ℕ) (p : ℕ → Bool) → every n p ≡ true → (i : ℕ) → i < n → p i ≡ true
unfolding every
every-at zero p e i h = absurd (not-suc-le-zero h)
every-at (suc n) p e i h =
    ⊎_elim (λ q. rw q (and_right (every n p) (p n) e)) (λ l. every-at n p (and_left (every n p) (p n) e) i l) (eq-or-lt_of_le (le_of_suc-le-suc h))

pub every_of : (n : ℕ) (p : ℕ → Bool) → ((i : ℕ) → i < n → p i ≡ true) → every n p ≡ true
unfolding every
every_of zero p f = refl
every_of (suc n) p f = rw (every_of n p (λ i h. f i (omega arith))) (f n (omega arith))

-- where it fails, it fails somewhere
pub every-fails : (n : ℕ) (p : ℕ → Bool) → every n p ≡ false → (i : ℕ) × (i < n) × (p i ≡ false)
unfolding every
every-fails zero p e = no_way true refl e
every-fails (suc n) p e = go (every n p) refl (λ h. every-fails n p h)
  where
    go : (b : Bool) → every n p ≡ b → (every n p ≡ false → (i : ℕ) × (i < n) × (p i ≡ false)) → (i : ℕ) × (i < suc n) × (p i ≡ false)
    go true q ih = (n, omega arith, cc)
    go false q ih = let r = ih q in (r.0, omega (arith, r.1), r.2)

pub every-not : (n : ℕ) (p : ℕ → Bool) (i : ℕ) → i < n → p i ≡ false → every n p ≡ false
every-not n p i h q = go (every n p) refl
  where
    go : (b : Bool) → every n p ≡ b → every n p ≡ false
    go true e = no_way (p i) (every-at n p e i h) q
    go false e = e

-- tests that agree below the bound
pub every-same : (n : ℕ) (p q : ℕ → Bool) → ((i : ℕ) → i < n → p i ≡ q i) → every n p ≡ every n q
unfolding every
every-same zero p q f = refl
every-same (suc n) p q f = ap₂ ◌&&◌ (every-same n p q (λ i h. f i (omega arith))) (f n (omega arith))

-- some position passes a test where not every position fails it
pub some-every : (n : ℕ) (p q : ℕ → Bool) → ((i : ℕ) → p i ≡ not (q i)) → some n p ≡ not (every n q)
unfolding some every
some-every zero p q f = refl
some-every (suc n) p q f = rw (some-every n p q f, f n) (or-not (every n q) (q n))
  where
    or-not : (a b : Bool) → not a || not b ≡ not (a && b)
    or-not true b = refl
    or-not false b = refl

-- a position that passes, and where there is one
or-true : (b : Bool) → b || true ≡ true
or-true true = refl
or-true false = refl

pub some_at : (n : ℕ) (p : ℕ → Bool) (j : ℕ) → j < n → p j ≡ true → some n p ≡ true
unfolding some
some_at zero p j h e = absurd (not-suc-le-zero h)
some_at (suc n) p j h e =
    ⊎_elim (λ q. let r : p n ≡ true = rw q at e in rw r (or-true (some n p))) (λ l. rw (some_at n p j l e)) (eq-or-lt_of_le (le_of_suc-le-suc h))

pub some_is : (n : ℕ) (p : ℕ → Bool) → some n p ≡ true → (j : ℕ) × (j < n) × (p j ≡ true)
unfolding some
some_is zero p e = no_way false e refl
some_is (suc n) p e = go (some n p) refl (λ h. some_is n p h)
  where
    go : (b : Bool) → some n p ≡ b → (some n p ≡ true → (j : ℕ) × (j < n) × (p j ≡ true)) → (j : ℕ) × (j < suc n) × (p j ≡ true)
    go true q ih = let r = ih q in (r.0, omega (arith, r.1), r.2)
    go false q ih = (n, omega arith, cc)

pub count_same : (n : ℕ) (p q : ℕ → Bool) → ((i : ℕ) → i < n → p i ≡ q i) → count n p ≡ count n q
unfolding count
count_same zero p q f = refl
count_same (suc n) p q f = ap₂ (λ (x : ℕ) (b : Bool). x + one_if b) (count_same n p q (λ i h. f i (omega arith))) (f n (omega arith))

-- p within q
abbrev pub Within : ℕ → (ℕ → Bool) → (ℕ → Bool) → Type 0
Within n p q = (i : ℕ) → i < n → p i ≡ true → q i ≡ true

one-if-le : (a b : Bool) → (a ≡ true → b ≡ true) → one_if a ≤ one_if b
one-if-le true b f = rw (f refl) (omega arith)
one-if-le false b f = omega arith

one-if-eq : (a b : Bool) → (a ≡ true → b ≡ true) → one_if b ≤ one_if a → a ≡ b
one-if-eq true b f h = sym (f refl)
one-if-eq false true f h = absurd (omega arith)
one-if-eq false false f h = refl

pub count-le : (n : ℕ) (p q : ℕ → Bool) → Within n p q → count n p ≤ count n q
unfolding count
count-le zero p q f = omega arith
count-le (suc n) p q f = omega (arith, count-le n p q (λ i h. f i (omega arith)), one-if-le (p n) (q n) (f n (omega arith)))

-- a set within another and no smaller is the same set
pub count-eq : (n : ℕ) (p q : ℕ → Bool) → Within n p q → count n q ≤ count n p → (i : ℕ) → i < n → p i ≡ q i
unfolding count
count-eq zero p q f c i h = absurd (not-suc-le-zero h)
count-eq (suc n) p q f c i h =
    let a = one-if-le (p n) (q n) (f n (omega arith)) in
    let b = count-le n p q (λ i h. f i (omega arith)) in
    ⊎_elim (λ e. rw e (one-if-eq (p n) (q n) (f n (omega arith)) (omega arith))) (λ l. count-eq n p q (λ i h. f i (omega arith)) (omega arith) i l)
    (eq-or-lt_of_le (le_of_suc-le-suc h))

pub count-bound : (n : ℕ) (p : ℕ → Bool) → count n p ≤ n
unfolding count
count-bound zero p = omega arith
count-bound (suc n) p = omega (arith, count-bound n p, one-if-le (p n) true (λ e. refl))

pub count-zero : (n : ℕ) (p : ℕ → Bool) → count n p ≤ 0 → (i : ℕ) → i < n → p i ≡ false
unfolding count
count-zero zero p c i h = absurd (not-suc-le-zero h)
count-zero (suc n) p c i h =
    ⊎_elim (λ e. rw e (sym (one-if-eq false (p n) (λ q. no_way false q refl) (omega arith)))) (λ l. count-zero n p (omega arith) i l) (eq-or-lt_of_le (le_of_suc-le-suc h))

-- the first m, then the rest
pub count_add : (m n : ℕ) (p : ℕ → Bool) → count (m + n) p ≡ count m p + count n (λ i. p (m + i))
unfolding count
count_add m zero p = rw (add-zero m) (sym (add-zero (count m p)))
count_add m (suc n) p = rw (add-suc m n) (rw (count_add m n p) (add_assoc (count m p) (count n (λ i. p (m + i))) (one_if (p (m + n)))))

-- one more, as a loop has it
pub every_more : (n : ℕ) (p : ℕ → Bool) → every n p ≡ true → p n ≡ true → every (n + 1) p ≡ true
unfolding every
every_more n p e h = rw (add-one n, e, h)
