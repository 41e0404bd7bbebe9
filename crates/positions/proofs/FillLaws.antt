-- Laws of sets that are filled a word at a time, and of the positions below a bound. Assumes nothing.
use Prim.Native.Nat.{ℕ, zero, suc, ◌+◌, ◌-◌, ◌*◌, ◌/◌, ◌%◌, ◌^◌, ◌≤◌, ◌<◌, min}
use mathlib.Core.Path.{◌≡◌, sym, ap, ◌∙◌}
use mathlib.Core.List.{List}
use native.Mathlib.Decide.{dec_lt}
use native.Mathlib.Omega.{arith}
use borrow.Author.Count.{below_more}
use borrow.Author.Tests.{lt-ltb, le-ltb}
use lib.Dec.{ltb}
use lib.ListN.{get_or, set}
use lib.Pow.{pow_pos}
use lib.Seq.{get_or-set_same, get_or-set_other}
use Rattle.positions.specs.Bits.{bit}
use Rattle.positions.specs.Sets.{set_words, room, has, first_positions, word_below}
use Rattle.positions.proofs.BitLaws.{bit-zero, bit-suc, bit-none}
use Rattle.positions.proofs.SetLaws.{WordList, set-words}
use Rattle.positions.proofs.MemberLaws.{has-set-of, set-of-is}
use Rattle.positions.proofs.SetCodeLaws.{shift_one}

-- the first w words are those that f gives
pub record FilledTo (f : ℕ → ℕ) (t : List ℕ) (w : ℕ) : Type 0 where
  pub within : w ≤ set_words
  pub word-list : WordList set_words t
  pub each : (v : ℕ) → v < w → get_or t v 0 ≡ f v

pub filled_none : (f : ℕ → ℕ) (t : List ℕ) → WordList set_words t → FilledTo f t 0
filled_none f t g = record { within = omega arith; word-list = g; each = λ v h. absurd (omega arith) }

pub filled_more : (f : ℕ → ℕ) (t : List ℕ) (w x : ℕ) → FilledTo f t w → w < set_words → x < 2 ^ 64 → x ≡ f w → FilledTo f (set t w x) (w + 1)
filled_more f t w x r h l e =
    record {
      within = omega arith;
      word-list = set-words t w x r.word-list l;
      each =
          below_more (λ v. get_or (set t w x) v 0 ≡ f v) w (λ v q. get_or-set_other t w v x 0 (omega arith) ∙ r.each v q)
          (get_or-set_same t w x 0 (omega (arith, r.word-list.size)) ∙ e);
    }

-- the members of a set of which each word is known
pub filled-has : (f : ℕ → ℕ) (t : List ℕ) (w : ℕ) → FilledTo f t w → set_words ≤ w → (j : ℕ) → j < room → has t j ≡ bit (f (j / 64)) (j % 64)
unfolding has
filled-has f t w r h j l = ap (λ (x : ℕ). bit x (j % 64)) (r.each (j / 64) (omega arith))

-- the bits of 2 ^ k - 1 are those below k
bit-ones : (k i : ℕ) → bit (2 ^ k - 1) i ≡ ltb i k
bit-ones zero i = bit-none i ∙ sym (le-ltb i 0 (omega arith))
bit-ones (suc k) zero = let e : (2 ^ suc k - 1) % 2 ≡ 1 = omega (arith, pow_pos k) in rw (bit-zero (2 ^ suc k - 1), e, lt-ltb 0 (suc k) (omega arith))
bit-ones (suc k) (suc i) =
    let e : (2 ^ suc k - 1) / 2 ≡ 2 ^ k - 1 = omega (arith, pow_pos k) in
    bit-suc (2 ^ suc k - 1) i ∙ rw e (bit-ones k i ∙ both (dec_lt i k))
  where
    both : Dec (i < k) → ltb i k ≡ ltb (suc i) (suc k)
    both (yes h) = lt-ltb i k h ∙ sym (lt-ltb (suc i) (suc k) (omega arith))
    both (no h) = le-ltb i k (omega arith) ∙ sym (le-ltb (suc i) (suc k) (omega arith))

-- a word of the positions below n, by the code's two cases
module _ (n w : ℕ) where
  pub word-full : 64 ≤ n - 64 * w → 18446744073709551615 ≡ word_below n w
  unfolding word_below
  word-full h = let e : min (n - 64 * w) 64 ≡ 64 = omega arith in rw e

  pub word-part : n - 64 * w < 64 → 1 * 2 ^ (n - 64 * w) % 2 ^ 64 - 1 ≡ word_below n w
  unfolding word_below
  word-part h = let e : min (n - 64 * w) 64 ≡ n - 64 * w = omega arith in rw (shift_one (n - 64 * w) h, e)

-- the positions below n
pub first-all : (n : ℕ) (t : List ℕ) (w : ℕ) → FilledTo (word_below n) t w → set_words ≤ w → t ≡ first_positions n
unfolding first_positions word_below
first-all n t w r h =
    set-of-is t (λ j. ltb j n) r.word-list (λ j l. filled-has (word_below n) t w r h j l ∙ bit-ones (min (n - 64 * (j / 64)) 64) (j % 64) ∙ both j (dec_lt j n))
  where
    both : (j : ℕ) → Dec (j < n) → ltb (j % 64) (min (n - 64 * (j / 64)) 64) ≡ ltb j n
    both j (yes q) = lt-ltb (j % 64) (min (n - 64 * (j / 64)) 64) (omega arith) ∙ sym (lt-ltb j n q)
    both j (no q) = le-ltb (j % 64) (min (n - 64 * (j / 64)) 64) (omega arith) ∙ sym (le-ltb j n (omega arith))

pub first_member : (n j : ℕ) → j < room → has (first_positions n) j ≡ ltb j n
unfolding first_positions
first_member n j h = has-set-of (λ j. ltb j n) j h
