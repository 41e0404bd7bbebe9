-- The lowest member of a set outside another, a word at a time. Assumes nothing.
use Prim.Native.Nat.{ℕ, zero, suc, ◌+◌, ◌-◌, ◌*◌, ◌/◌, ◌%◌, ◌^◌, ◌≤◌, ◌<◌}
use mathlib.Core.Path.{◌≡◌, refl, sym, ap, ap₂, ◌∙◌}
use mathlib.Core.Bool.{Bool, true, false, not, ◌&&◌}
use mathlib.Core.List.{List}
use native.Mathlib.Nat.{not-suc-le-zero, lt_of_le_of_lt}
use native.Mathlib.Decide.{dec_lt}
use native.Mathlib.Omega.{arith}
use lib.Bits.{bit_and, and_le_l}
use lib.Count.{count_trailing_zeros, under, trailing_le}
use lib.ListN.{get_or}
use Rattle.std.specs.Prelude.{None, Some}
use Rattle.positions.specs.Below.{first_that}
use Rattle.positions.specs.Bits.{not_zero, bit}
use Rattle.positions.specs.Sets.{set_words, room, member_outside}
use Rattle.positions.proofs.FirstLaws.{first-is}
use Rattle.positions.proofs.BitLaws.{bit-and, bit_not, bit-ext, bit-none, bit-suc, bit-zero}
use Rattle.positions.proofs.SetLaws.{WordList, has-at}

-- the lowest bit that is set
low-is : (k w : ℕ) → count_trailing_zeros k w < k → bit w (count_trailing_zeros k w) ≡ true
unfolding count_trailing_zeros
low-is zero w h = absurd (not-suc-le-zero h)
low-is (suc k) w h = go (w % 2) refl h (low-is k (w / 2))
  where
    go : (d : ℕ) → w % 2 ≡ d → under d (count_trailing_zeros k (w / 2)) < suc k → (count_trailing_zeros k (w / 2) < k → bit (w / 2) (count_trailing_zeros k (w / 2)) ≡ true)
        → bit w (under d (count_trailing_zeros k (w / 2))) ≡ true
    go zero e l ih = bit-suc w (count_trailing_zeros k (w / 2)) ∙ ih (omega arith)
    go (suc d) e l ih = bit-zero w ∙ ap not_zero e

low_first : (k w i : ℕ) → i < count_trailing_zeros k w → bit w i ≡ false
unfolding count_trailing_zeros
low_first zero w i h = absurd (not-suc-le-zero h)
low_first (suc k) w i h = go (w % 2) refl i h (low_first k (w / 2))
  where
    go : (d : ℕ) → w % 2 ≡ d → (i : ℕ) → i < under d (count_trailing_zeros k (w / 2)) → ((i : ℕ) → i < count_trailing_zeros k (w / 2) → bit (w / 2) i ≡ false) → bit w i ≡ false
    go zero e zero l ih = bit-zero w ∙ ap not_zero e
    go zero e (suc i) l ih = bit-suc w i ∙ ih i (omega arith)
    go (suc d) e i l ih = absurd (not-suc-le-zero l)

low-lt : (w : ℕ) → w < 2 ^ 64 → (w ≡ 0 → ⊥) → count_trailing_zeros 64 w < 64
low-lt w h ne = go (dec_lt (count_trailing_zeros 64 w) 64)
  where
    go : Dec (count_trailing_zeros 64 w < 64) → count_trailing_zeros 64 w < 64
    go (yes l) = l
    go (no l) = absurd (ne (bit-ext 64 w 0 h (omega arith) (λ i q. low_first 64 w i (omega arith) ∙ sym (bit-none i))))

-- the bits of a word of the first set outside the second
abbrev pub word_outside : List ℕ → List ℕ → ℕ → ℕ
word_outside a b v = bit_and (get_or a v 0) (2 ^ 64 - 1 - get_or b v 0)

-- no member among the first w words of the first set is outside the second
pub record NoneOutside (a b : List ℕ) (w : ℕ) : Type 0 where
  pub within : w ≤ set_words
  pub none : (j : ℕ) → j < 64 * w → member_outside a b j ≡ false

pub none-begins : (a b : List ℕ) → NoneOutside a b 0
none-begins a b = record { within = omega arith; none = λ j h. absurd (omega arith) }

pub lowest-none : {a b : List ℕ} {w : ℕ} → NoneOutside a b w → set_words ≤ w → None ≡ first_that room (member_outside a b)
lowest-none {a} {b} n h = first-is room (member_outside a b) {r = None} (λ j l. n.none j (omega arith))

module _ (a b : List ℕ) (gb : WordList set_words b) where
  outside-bit : (v s : ℕ) → s < 64 → member_outside a b (64 * v + s) ≡ bit (word_outside a b v) s
  unfolding member_outside
  outside-bit v s h =
      ap₂ (λ (x y : Bool). x && not y) (has-at a v s h) (has-at b v s h)
      ∙ sym (bit-and (get_or a v 0) (2 ^ 64 - 1 - get_or b v 0) s ∙ ap (λ (y : Bool). bit (get_or a v 0) s && y) (bit_not 64 (get_or b v 0) s (gb.small v) h))

  -- the same of a position of word v
  outside-at : (v j : ℕ) → 64 * v ≤ j → j < 64 * v + 64 → member_outside a b j ≡ bit (word_outside a b v) (j - 64 * v)
  outside-at v j h l = let e : 64 * v + (j - 64 * v) ≡ j = omega arith in ap (member_outside a b) (sym e) ∙ outside-bit v (j - 64 * v) (omega arith)

  pub none_more : {w : ℕ} → NoneOutside a b w → w < set_words → word_outside a b w ≡ 0 → NoneOutside a b (w + 1)
  none_more {w} n h e = record { within = omega arith; none = λ j l. go j l (dec_lt j (64 * w)) }
    where
      go : (j : ℕ) → j < 64 * (w + 1) → Dec (j < 64 * w) → member_outside a b j ≡ false
      go j l (yes m) = n.none j m
      go j l (no m) = outside-at w j (omega arith) (omega arith) ∙ ap (λ (x : ℕ). bit x (j - 64 * w)) e ∙ bit-none (j - 64 * w)

  pub lowest-found : {w : ℕ} → WordList set_words a → NoneOutside a b w → w < set_words → (word_outside a b w ≡ 0 → ⊥)
      → Some (64 * w + count_trailing_zeros 64 (word_outside a b w)) ≡ first_that room (member_outside a b)
  lowest-found {w} ga n h ne =
      let x = word_outside a b w in
      let lt = low-lt x (lt_of_le_of_lt (and_le_l (get_or a w 0) (2 ^ 64 - 1 - get_or b w 0)) (ga.small w)) ne in
      first-is room (member_outside a b) {r = Some (64 * w + count_trailing_zeros 64 x)}
      (omega arith, outside-bit w (count_trailing_zeros 64 x) lt ∙ low-is 64 x lt, λ j l. before j l (dec_lt j (64 * w)))
    where
      before : (j : ℕ) → j < 64 * w + count_trailing_zeros 64 (word_outside a b w) → Dec (j < 64 * w) → member_outside a b j ≡ false
      before j l (yes m) = n.none j m
      before j l (no m) =
          outside-at w j (omega arith) (omega (arith, trailing_le 64 (word_outside a b w))) ∙ low_first 64 (word_outside a b w) (j - 64 * w) (omega arith)
