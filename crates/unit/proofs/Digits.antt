-- Laws of a number's digits. Assumes nothing.
use mathlib.Core.Path.{◌≡◌, refl, sym, ap, ◌∙◌}
use mathlib.Core.Bool.{Bool, true, false}
use mathlib.Core.List.{List, [], ◌∷◌, ◌++◌, append_assoc, append-nil}
use Prim.Native.Nat.{ℕ, zero, suc, ◌+◌, ◌-◌, ◌*◌, ◌^◌, ◌/◌, ◌<◌, ◌≤◌}
use native.Mathlib.Omega.{arith}
use borrow.Author.Tests.{ltb-true, ltb-false}
use lib.Dec.{ltb}
use lib.ListN.{length, length-append, set}
use lib.Pow.{pow-add}
use native.Mathlib.Decide.{dec_lt}
use Rattle.refusal.proofs.Checks.{tests}
use Rattle.cells.specs.Buffer.{written}
use Rattle.cells.proofs.Buffer.{written_none, written-before}
use Rattle.cells.proofs.Writing.{refused-leaves, passed-writes}
use Rattle.characters.specs.Characters.{hex_digit}
use Rattle.unit.specs.Hex.{digits_of, hex_text, digit_count, write_checks, after_hex}

-- the bound on their number does not show
fuel : (f g n : ℕ) → n < f → n < g → digits_of f n ≡ digits_of g n
unfolding digits_of
fuel zero g n h k = absurd (omega arith)
fuel (suc f) zero n h k = absurd (omega arith)
fuel (suc f) (suc g) n h k = go (ltb n 16) refl (fuel f g (n / 16))
  where
    go : (b : Bool) → ltb n 16 ≡ b → (n / 16 < f → n / 16 < g → digits_of f (n / 16) ≡ digits_of g (n / 16)) → digits_of (suc f) n ≡ digits_of (suc g) n
    go true e r = rw (e, digits_of)
    go false e r = let l : 16 ≤ n = ltb-false n 16 e in rw (e, digits_of) (ap (λ (ds : List ℕ). ds ++ hex_digit n ∷ []) (r (omega arith) (omega arith)))

-- the digits before the last: none for a number below 16
abbrev pub left : ℕ → List ℕ
left zero = []
left (suc n) = hex_text (suc n)

pub left-text : (n : ℕ) → 0 < n → left n ≡ hex_text n
left-text zero h = absurd (omega arith)
left-text (suc n) h = refl

-- a text ends in its lowest digit
pub text-last : (n : ℕ) → hex_text n ≡ left (n / 16) ++ hex_digit n ∷ []
unfolding hex_text digits_of
text-last n = go (ltb n 16) refl
  where
    go : (b : Bool) → ltb n 16 ≡ b → digits_of (suc n) n ≡ left (n / 16) ++ hex_digit n ∷ []
    go true e =
        let l : n < 16 = ltb-true n 16 e in
        let q : n / 16 ≡ 0 = omega arith in
        rw (e, digits_of) (rw q)
    go false e =
        let l : 16 ≤ n = ltb-false n 16 e in
        rw (e, digits_of) (ap (λ (ds : List ℕ). ds ++ hex_digit n ∷ []) (fuel n (suc (n / 16)) (n / 16) (omega arith) (omega arith) ∙ sym (left-text (n / 16) (omega arith))))

-- as many digits as are before the last, and the last
pub count-last : (n : ℕ) → digit_count n ≡ length (left (n / 16)) + 1
unfolding digit_count
count-last n = ap length (text-last n) ∙ length-append (left (n / 16)) (hex_digit n ∷ [])

pub count-one : (n : ℕ) → n / 16 ≡ 0 → digit_count n ≡ 1
count-one n z = count-last n ∙ rw z

pub count-more : (n : ℕ) → 0 < n / 16 → digit_count n ≡ digit_count (n / 16) + 1
unfolding digit_count
count-more n h = count-last n ∙ ap (λ (ds : List ℕ). length ds + 1) (left-text (n / 16) h)

-- the digits of what is left are those before its last, and its last
pub left-count : (n : ℕ) → 0 < n → length (left n) ≡ length (left (n / 16)) + 1
unfolding digit_count
left-count n h = ap length (left-text n h) ∙ count-last n

-- no more digits than the number needs
pub count-least : (d n : ℕ) → n < 2 ^ (4 * suc d) → digit_count n ≤ suc d
count-least zero n h = omega (arith, count-one n (omega arith))
count-least (suc d) n h = go (dec_lt 0 (n / 16)) (count-least d (n / 16))
  where
    go : Dec (0 < n / 16) → (n / 16 < 2 ^ (4 * suc d) → digit_count (n / 16) ≤ suc d) → digit_count n ≤ suc (suc d)
    go (yes p) r =
        let e : 4 * suc (suc d) ≡ 4 * suc d + 4 = omega arith in
        let k : n < 2 ^ (4 * suc d) * 2 ^ 4 = rw (e, pow-add 2 (4 * suc d) 4) at h in
        omega (arith, count-more n p, r (omega arith))
    go (no p) r = omega (arith, count-one n (omega arith))

pub count-within : (n : ℕ) → n < 2 ^ 64 → digit_count n ≤ 16
count-within n h = count-least 15 n h

-- digits are put in from the last to the first: those from `place` on stand, and those before it are in front
pub record Writing (number at : ℕ) (old buffer : List ℕ) (rest place : ℕ) : Type 0 where
  pub front : List ℕ
  pub back : List ℕ
  pub joined : front ++ back ≡ hex_text number
  pub reached : at + length front ≡ place
  pub next : at < place → front ≡ hex_text rest
  pub stands : buffer ≡ written old place back
  pub room : place + length back ≤ length old

pub writing-none : (number at count : ℕ) (old : List ℕ) → count ≡ digit_count number → at + count ≤ length old → Writing number at old old number (at + count)
unfolding digit_count
writing-none number at count old e h = record {
  front = hex_text number;
  back = [];
  joined = append-nil (hex_text number);
  reached = omega arith;
  next = λ _. refl;
  stands = sym (written_none old (at + count));
  room = omega arith;
}

module _ {number at : ℕ} {old buffer : List ℕ} {rest place : ℕ} (g : Writing number at old buffer rest place) where
  pub writing_more : {b : ℕ} → b ≡ hex_digit rest → at < place → Writing number at old (set buffer (place - 1) b) (rest / 16) (place - 1)
  writing_more {b} e h =
      let f : g.front ≡ left (rest / 16) ++ hex_digit rest ∷ [] = g.next h ∙ text-last rest in
      let l : length g.front ≡ length (left (rest / 16)) + 1 = ap length f ∙ length-append (left (rest / 16)) (hex_digit rest ∷ []) in
      let p : place ≡ place - 1 + 1 = omega arith in
      record {
        front = left (rest / 16);
        back = hex_digit rest ∷ g.back;
        joined = sym (append_assoc (left (rest / 16)) (hex_digit rest ∷ []) g.back) ∙ ap (λ (ds : List ℕ). ds ++ g.back) (sym f) ∙ g.joined;
        reached = omega (arith, g.reached);
        next = λ k. some (rest / 16) (omega (arith, g.reached));
        stands = rw (g.stands, e) (ap (λ (q : ℕ). set (written old q g.back) (place - 1) (hex_digit rest)) p ∙ written-before old (place - 1) (hex_digit rest) g.back (omega (arith, g.room)));
        room = omega (arith, g.room);
      }
    where
      some : (m : ℕ) → 0 < length (left m) → left m ≡ hex_text m
      some zero q = absurd (omega arith)
      some (suc m) q = refl

  pub writing-all : place ≤ at → buffer ≡ written old at (hex_text number)
  writing-all h =
      let z : length g.front ≡ 0 = omega (arith, g.reached) in
      let p : place ≡ at = omega (arith, g.reached) in
      g.stands ∙ ap (λ (q : ℕ). written old q g.back) p ∙ ap (written old at) (none g.front z g.joined)
    where
      none : (front : List ℕ) → length front ≡ 0 → front ++ g.back ≡ hex_text number → g.back ≡ hex_text number
      none [] z e = e
      none (d ∷ ds) z e = absurd (omega arith)

-- the buffer afterwards
module _ (number at : ℕ) (old : List ℕ) where
  pub after-refused : length old < at + digit_count number → old ≡ after_hex number at old
  unfolding after_hex write_checks
  after-refused h = sym (refused-leaves _ _ _ _ 0 (omega (arith, tests)))

  pub after-written : at + digit_count number ≤ length old → written old at (hex_text number) ≡ after_hex number at old
  unfolding after_hex write_checks
  after-written h = sym (passed-writes _ _ _ _ (omega (arith, tests), tt))
