-- Words by the bits that pass a test. Assumes nothing.
use Rattle.std.specs.Prelude.{Option, None, Some}
use Prim.Native.Nat.{ℕ, ◌+◌, ◌*◌, ◌%◌, ◌^◌, ◌≤◌, ◌<◌}
use mathlib.Core.Path.{◌≡◌, refl, sym, ap, ◌∙◌}
use mathlib.Core.Bool.{Bool, true, false, ◌&&◌, ◌||◌, cond}
use native.Mathlib.Omega.{arith}
use borrow.Author.Tests.{lt-ltb, ne_eqb}
use lib.Bits.{bit_and, bit_or, or_lt, and_le_l}
use native.Mathlib.Nat.{lt_of_le_of_lt}
use lib.Dec.{ltb}
use lib.Pow.{pow-lt, shl_exact}
use Rattle.positions.specs.Bits.{bit}
use Rattle.positions.specs.Sets.{word_bits, has, collect}
use Rattle.positions.proofs.BitLaws.{bit-none, bit-and, bit-or, bit-pow, bit-ext}
use Rattle.positions.proofs.SetLaws.{has-at, has-collect, collect-words}
use Rattle.words.specs.Words.{word_of, is_number}
use Rattle.words.specs.Parts.{bit_where, below_level}

pub bit_word : (p : ℕ → Bool) (i : ℕ) → i < 64 → bit (word_of p) i ≡ p i
unfolding word_of
bit_word p i h =
    let e : 64 * 0 + i ≡ i = omega arith in
    sym (has-at (collect 1 word_bits p) 0 i h) ∙ ap (has (collect 1 word_bits p)) e ∙ has-collect 1 word_bits p (omega arith) i ∙ rw (lt-ltb i 64 h)

pub word_small : (p : ℕ → Bool) → word_of p < 2 ^ 64
unfolding word_of
word_small p = (collect-words 1 word_bits p).small 0

pub word-is : (w : ℕ) (p : ℕ → Bool) → w < 2 ^ 64 → ((i : ℕ) → i < 64 → bit w i ≡ p i) → w ≡ word_of p
word-is w p h f = bit-ext 64 w (word_of p) h (word_small p) (λ i l. f i l ∙ sym (bit_word p i l))

pub word_none : (p : ℕ → Bool) → ((i : ℕ) → i < 64 → p i ≡ false) → 0 ≡ word_of p
word_none p f = word-is 0 p (omega arith) (λ i l. bit-none i ∙ sym (f i l))

pub word-or : (p q : ℕ → Bool) → bit_or (word_of p) (word_of q) ≡ word_of (λ (b : ℕ). p b || q b)
word-or p q =
    word-is (bit_or (word_of p) (word_of q)) (λ (b : ℕ). p b || q b) (or_lt 64 (word_of p) (word_of q) (word_small p) (word_small q))
    (λ i l. bit-or (word_of p) (word_of q) i ∙ rw (bit_word p i l, bit_word q i l))

pub word_and : (p : ℕ → Bool) (m : ℕ) {w : ℕ} → w ≡ word_of p → bit_and w m ≡ word_of (λ (b : ℕ). bit m b && p b)
word_and p m e =
    rw e
    (word-is (bit_and (word_of p) m) (λ (b : ℕ). bit m b && p b) (lt_of_le_of_lt (and_le_l (word_of p) m) (word_small p))
    (λ i l. bit-and (word_of p) m i ∙ rw (bit_word p i l) (swap (p i) (bit m i))))
  where
    swap : (a b : Bool) → a && b ≡ b && a
    swap true true = refl
    swap true false = refl
    swap false true = refl
    swap false false = refl

pub word-below : (p : ℕ → Bool) (upper level : ℕ) {w r : ℕ} → w ≡ word_of p → r ≡ below_level upper level w → r ≡ word_of (λ (b : ℕ). ltb level upper && p b)
unfolding below_level
word-below p upper level e k = k ∙ rw e (go (ltb level upper))
  where
    go : (b : Bool) → cond b (word_of p) 0 ≡ word_of (λ (n : ℕ). b && p n)
    go true = refl
    go false = word_none (λ (n : ℕ). false) (λ i l. refl)

-- the bit of a number
pub bit-off : (b : Bool) (c : Option ℕ) → b ≡ false → 0 ≡ bit_where b c
unfolding bit_where
bit-off b c e = word_none (λ (n : ℕ). b && is_number c n) (λ i l. rw e)

pub bit-absent : (b : Bool) {c : Option ℕ} → c ≡ None → 0 ≡ bit_where b c
unfolding bit_where
bit-absent b {c} e = word_none (λ (n : ℕ). b && is_number c n) (λ i l. rw e (go b))
  where
    go : (b : Bool) → b && false ≡ false
    go true = refl
    go false = refl

pub bit_high : (b : Bool) {c : Option ℕ} {n : ℕ} → c ≡ Some n → 64 ≤ n → 0 ≡ bit_where b c
unfolding bit_where
bit_high b {c} {n} e h = word_none (λ (m : ℕ). b && is_number c m) (λ i l. rw (e, ne_eqb n i (λ q. absurd (omega arith))) (go b))
  where
    go : (b : Bool) → b && false ≡ false
    go true = refl
    go false = refl

pub bit-on : {b : Bool} {c : Option ℕ} {n : ℕ} → b ≡ true → c ≡ Some n → n < 64 → 1 * 2 ^ n % 2 ^ 64 ≡ bit_where b c
unfolding bit_where
bit-on {b} {c} {n} e k h =
    let s : 1 * 2 ^ n % 2 ^ 64 ≡ 2 ^ n = shl_exact 1 n 64 (omega arith) (omega arith) ∙ omega arith in
    s ∙ word-is (2 ^ n) (λ (m : ℕ). b && is_number c m) (pow-lt {j = 64} (omega arith)) (λ i l. bit-pow n i ∙ rw (e, k))

pub ruleset bits_where = (bit-off, bit-absent, bit_high, bit-on)
