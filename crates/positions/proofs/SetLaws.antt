-- Laws of sets of positions as words, over any number of words. Assumes nothing.
use Prim.Native.Nat.{ℕ, zero, suc, ◌+◌, ◌*◌, ◌/◌, ◌%◌, ◌^◌, ◌≤◌, ◌<◌}
use mathlib.Core.Path.{◌≡◌, refl, sym, ap, ◌∙◌}
use mathlib.Core.Bool.{Bool, true, false, ◌&&◌, ◌||◌, cond}
use mathlib.Core.List.{List}
use native.Mathlib.Decide.{ℕ_discrete, dec_lt}
use native.Mathlib.Numerals.{add-one}
use native.Mathlib.Omega.{arith}
use borrow.Author.Tests.{eq-eqb, ne_eqb, lt-ltb, le-ltb}
use lib.Bits.{bit_or, or_lt}
use lib.Count.{ones}
use lib.Dec.{eqb, ltb}
use lib.ListN.{length, get_or, set, replicate, length-set, length-replicate, get_or-eq_default}
use lib.Pow.{pow-lt}
use lib.Seq.{get_or-set_same, get_or-set_other, set_out, ext_get_or}
use Rattle.positions.specs.Below.{count}
use Rattle.positions.specs.Bits.{bit}
use Rattle.positions.specs.Sets.{has, insert_at, collect}
use Rattle.positions.proofs.BelowLaws.{count_same, count_add}
use Rattle.positions.proofs.BitLaws.{bit-or, bit-pow, bit-none, bit-ext, ones-count}

-- a list of W words, each of 64 bits
pub record WordList (W : ℕ) (ws : List ℕ) : Type 0 where
  pub size : length ws ≡ W
  pub small : (v : ℕ) → get_or ws v 0 < 2 ^ 64

-- a position is a bit of one word
pub has-at : (ws : List ℕ) (v s : ℕ) → s < 64 → has ws (64 * v + s) ≡ bit (get_or ws v 0) s
unfolding has
has-at ws v s h = let p : (64 * v + s) / 64 ≡ v = omega arith in let q : (64 * v + s) % 64 ≡ s = omega arith in rw (p, q)

-- no member stands past the last word
pub has-past : (ws : List ℕ) (i : ℕ) → 64 * length ws ≤ i → has ws i ≡ false
unfolding has
has-past ws i h = let l : length ws ≤ i / 64 = omega arith in rw (get_or-eq_default ws 0 l) (bit-none (i % 64))

eqb-split : (i j : ℕ) → j / 64 ≡ i / 64 → eqb i j ≡ eqb (i % 64) (j % 64)
eqb-split i j e = go (ℕ_discrete (i % 64) (j % 64))
  where
    go : Dec (i % 64 ≡ j % 64) → eqb i j ≡ eqb (i % 64) (j % 64)
    go (yes q) = eq-eqb i j (omega arith) ∙ sym (eq-eqb (i % 64) (j % 64) q)
    go (no q) = ne_eqb i j (λ r. q (ap (λ (x : ℕ). x % 64) r)) ∙ sym (ne_eqb (i % 64) (j % 64) q)

-- the members where one bit of the word of position i is made new
module _ (ws : List ℕ) (i : ℕ) (inside : i < 64 * length ws) (w : ℕ) (new : Bool)
    (bits : (s : ℕ) → s < 64 → bit w s ≡ cond (eqb (i % 64) s) new (bit (get_or ws (i / 64) 0) s)) where
  pub has-word-set : (j : ℕ) → has (set ws (i / 64) w) j ≡ cond (eqb i j) new (has ws j)
  unfolding has
  has-word-set j = go (ℕ_discrete (j / 64) (i / 64))
    where
      go : Dec (j / 64 ≡ i / 64) → has (set ws (i / 64) w) j ≡ cond (eqb i j) new (has ws j)
      go (yes e) = rw (eqb-split i j e, e, get_or-set_same ws (i / 64) w 0 (omega arith)) (bits (j % 64) (omega arith))
      go (no ne) = rw (ne_eqb i j (λ r. ne (ap (λ (x : ℕ). x / 64) (sym r))), get_or-set_other ws (i / 64) (j / 64) w 0 ne)

or-cond : (a b : Bool) → a || b ≡ cond b true a
or-cond true true = refl
or-cond true false = refl
or-cond false true = refl
or-cond false false = refl

pub has-insert : (ws : List ℕ) (i : ℕ) → i < 64 * length ws → (j : ℕ) → has (insert_at ws i) j ≡ has ws j || eqb i j
unfolding insert_at
has-insert ws i h j =
    has-word-set ws i h (bit_or (get_or ws (i / 64) 0) (2 ^ (i % 64))) true
    (λ s l. rw (bit-or (get_or ws (i / 64) 0) (2 ^ (i % 64)) s, bit-pow) (or-cond (bit (get_or ws (i / 64) 0) s) (eqb (i % 64) s))) j
    ∙ sym (or-cond (has ws j) (eqb i j))

-- a list of words stays one
pub set-words : {W : ℕ} (ws : List ℕ) (k w : ℕ) → WordList W ws → w < 2 ^ 64 → WordList W (set ws k w)
set-words ws k w g h = record { size = length-set ws k w ∙ g.size; small = λ v. go v (ℕ_discrete v k) (dec_lt k (length ws)) }
  where
    go : (v : ℕ) → Dec (v ≡ k) → Dec (k < length ws) → get_or (set ws k w) v 0 < 2 ^ 64
    go v (yes e) (yes l) = rw (e, get_or-set_same ws k w 0 l) h
    go v (yes e) (no l) = rw (set_out ws k w (omega arith)) (g.small v)
    go v (no e) _ = rw (get_or-set_other ws k v w 0 e) (g.small v)

pub zeros : (W v : ℕ) → ◌≡◌ {A = ℕ} (get_or (replicate W 0) v 0) 0
zeros zero v = refl
zeros (suc W) zero = refl
zeros (suc W) (suc v) = zeros W v

pub collect-words : (W m : ℕ) (p : ℕ → Bool) → WordList W (collect W m p)
unfolding collect insert_at
collect-words W zero p = record { size = length-replicate W 0; small = λ v. rw (zeros W v) (omega arith) }
collect-words W (suc m) p = go (p m) (collect-words W m p)
  where
    go : (b : Bool) → WordList W (collect W m p) → WordList W (cond b (insert_at (collect W m p) m) (collect W m p))
    go true g =
        set-words (collect W m p) (m / 64) (bit_or (get_or (collect W m p) (m / 64) 0) (2 ^ (m % 64))) g
        (or_lt 64 (get_or (collect W m p) (m / 64) 0) (2 ^ (m % 64)) (g.small (m / 64)) (pow-lt {j = 64} (omega arith)))
    go false g = g

pub length-collect : (W m : ℕ) (p : ℕ → Bool) → length (collect W m p) ≡ W
length-collect W m p = (collect-words W m p).size

-- one step of a loop
pub collect-more : (W i : ℕ) (p : ℕ → Bool) → cond (p i) (insert_at (collect W i p) i) (collect W i p) ≡ collect W (i + 1) p
unfolding collect
collect-more W i p = rw (add-one i)

pub collect-same : (W m : ℕ) (p q : ℕ → Bool) → ((i : ℕ) → i < m → p i ≡ q i) → collect W m p ≡ collect W m q
unfolding collect
collect-same W zero p q f = refl
collect-same W (suc m) p q f = rw (f m (omega arith), collect-same W m p q (λ i h. f i (omega arith)))

below_suc : (i m : ℕ) → (m ≡ i → ⊥) → ltb i (suc m) ≡ ltb i m
below_suc i m ne =
    elim (dec_lt i m) [ yes l ↦ lt-ltb i (suc m) (omega arith) ∙ sym (lt-ltb i m l) | no l ↦ le-ltb i (suc m) (omega arith) ∙ sym (le-ltb i m (omega arith)) ]

or-true : (b : Bool) → b || true ≡ true
or-true true = refl
or-true false = refl

pub or-false : (b : Bool) → b || false ≡ b
or-false true = refl
or-false false = refl

pub has-collect : (W m : ℕ) (p : ℕ → Bool) → m ≤ 64 * W → (i : ℕ) → has (collect W m p) i ≡ ltb i m && p i
unfolding collect has
has-collect W zero p h i = rw (zeros W (i / 64), le-ltb i 0 (omega arith)) (bit-none (i % 64))
has-collect W (suc m) p h i = go (p m) refl (ℕ_discrete m i) (has-collect W m p (omega arith) i)
  where
    new : has (insert_at (collect W m p) m) i ≡ has (collect W m p) i || eqb m i
    new = has-insert (collect W m p) m (omega (arith, length-collect W m p)) i

    go : (b : Bool) → p m ≡ b → Dec (m ≡ i) → has (collect W m p) i ≡ ltb i m && p i
        → has (cond b (insert_at (collect W m p) m) (collect W m p)) i ≡ ltb i (suc m) && p i
    go true e (yes q) ih = new ∙ rw (eq-eqb m i q, lt-ltb i (suc m) (omega arith), ← q, e) (or-true (has (collect W m p) m))
    go true e (no q) ih = new ∙ rw (ne_eqb m i q, below_suc i m q) (or-false (has (collect W m p) i) ∙ ih)
    go false e (yes q) ih = ih ∙ rw (le-ltb i m (omega arith), lt-ltb i (suc m) (omega arith), ← q, e)
    go false e (no q) ih = rw (below_suc i m q) ih

-- two lists of W words with the same members are equal
pub set-ext : {W : ℕ} (a b : List ℕ) → WordList W a → WordList W b → ((i : ℕ) → i < 64 * W → has a i ≡ has b i) → a ≡ b
set-ext {W} a b wa wb f =
    ext_get_or 0 a b (wa.size ∙ sym wb.size) (λ v h. bit-ext 64 (get_or a v 0) (get_or b v 0) (wa.small v) (wb.small v) (λ s q.
    sym (has-at a v s q) ∙ f (64 * v + s) (omega (arith, wa.size)) ∙ has-at b v s q))

pub collect-is : {W : ℕ} (ws : List ℕ) (m : ℕ) (p : ℕ → Bool) → WordList W ws → m ≤ 64 * W
    → ((i : ℕ) → i < 64 * W → has ws i ≡ ltb i m && p i) → ws ≡ collect W m p
collect-is {W} ws m p g h f = set-ext ws (collect W m p) g (collect-words W m p) (λ i l. f i l ∙ sym (has-collect W m p h i))

-- the number of members, a word at a time
pub count_word : (ws : List ℕ) (v : ℕ) → get_or ws v 0 < 2 ^ 64 → count (64 * v) (has ws) + ones (get_or ws v 0) ≡ count (64 * (v + 1)) (has ws)
count_word ws v h =
    let e : 64 * (v + 1) ≡ 64 * v + 64 = omega arith in
    rw (e, count_add (64 * v) 64 (has ws), ones-count 64 (get_or ws v 0) h)
    (ap (λ (x : ℕ). count (64 * v) (has ws) + x) (count_same 64 (bit (get_or ws v 0)) (λ s. has ws (64 * v + s)) (λ s q. sym (has-at ws v s q))))
