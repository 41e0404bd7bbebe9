-- Laws of digits: how many a number has, and how they are put from the last to the first. Assumes nothing.
use mathlib.Core.Path.{◌≡◌, refl, sym, ap, ap₂, ◌∙◌}
use mathlib.Core.Bool.{Bool, true, false}
use mathlib.Core.List.{List, [], ◌∷◌, ◌++◌, append_assoc, append-nil}
use Prim.Native.Nat.{ℕ, zero, suc, ◌+◌, ◌-◌, ◌*◌, ◌^◌, ◌/◌, ◌%◌, ◌<◌, ◌≤◌}
use native.Mathlib.Omega.{arith}
use native.Mathlib.Decide.{dec_lt}
use native.Mathlib.Nat.{pow-suc}
use native.Mathlib.Numerals.{add-one}
use borrow.Author.Tests.{ltb-false, lt-ltb, le-ltb}
use lib.Dec.{ltb}
use lib.ListN.{length, length-append, set}
use Rattle.std.specs.Fmt.{decimal as std_decimal}
use Rattle.std.proofs.lemmas.Fmt.{decimal_by_steps, length-decimal-le}
use Rattle.characters.proofs.Table.{agree}
use Rattle.characters.specs.Characters.{hex_digit, run}
use Rattle.cells.specs.Buffer.{written}
use Rattle.cells.proofs.Buffer.{written_none, written-before, length-written}
use Rattle.listing.specs.Digits.{last_digits, places_within, decimal_places, decimal}
use Rattle.listing.specs.Parts.{Put}

pub length_digits : (base many n : ℕ) → length (last_digits base many n) ≡ many
unfolding last_digits
length_digits base zero n = refl
length_digits base (suc many) n =
    omega (arith, length-append (last_digits base many (n / base)) (hex_digit (n % base) ∷ []), length_digits base many (n / base))

-- the bound on their number does not show
fuel : (f g n : ℕ) → n < f → n < g → places_within f n ≡ places_within g n
unfolding places_within
fuel zero g n h k = absurd (omega arith)
fuel (suc f) zero n h k = absurd (omega arith)
fuel (suc f) (suc g) n h k = go (ltb n 10) refl (fuel f g (n / 10))
  where
    go : (b : Bool) → ltb n 10 ≡ b → (n / 10 < f → n / 10 < g → places_within f (n / 10) ≡ places_within g (n / 10))
        → places_within (suc f) n ≡ places_within (suc g) n
    go true e r = rw (e, places_within)
    go false e r = let l : 10 ≤ n = ltb-false n 10 e in rw (e, places_within) (ap suc (r (omega arith) (omega arith)))

module _ (n : ℕ) where
  pub places-one : n < 10 → decimal_places n ≡ 1
  unfolding decimal_places places_within
  places-one h = rw (lt-ltb n 10 h, places_within)

  pub places-more : 10 ≤ n → decimal_places n ≡ decimal_places (n / 10) + 1
  unfolding decimal_places places_within
  places-more h =
      let e : places_within n (n / 10) ≡ places_within (suc (n / 10)) (n / 10) = fuel n (suc (n / 10)) (n / 10) (omega arith) (omega arith) in
      rw (le-ltb n 10 h, places_within) (omega (arith, e))

  pub places-some : 1 ≤ decimal_places n
  places-some = go (dec_lt n 10)
    where
      go : Dec (n < 10) → 1 ≤ decimal_places n
      go (yes h) = omega (arith, places-one h)
      go (no h) = omega (arith, places-more (omega arith))

-- no more than the number needs
pub places-most : (d n : ℕ) → n < 10 ^ suc d → decimal_places n ≤ suc d
places-most zero n h = omega (arith, places-one n (omega arith))
places-most (suc d) n h = go (dec_lt n 10) (places-most d (n / 10))
  where
    go : Dec (n < 10) → (n / 10 < 10 ^ suc d → decimal_places (n / 10) ≤ suc d) → decimal_places n ≤ suc (suc d)
    go (yes l) r = omega (arith, places-one n l)
    go (no l) r =
        let k : n < 10 ^ suc d * 10 = rw (pow-suc 10 (suc d)) at h in
        omega (arith, places-more n (omega arith), r (omega arith))

pub length-decimal : (n : ℕ) → length (decimal n) ≡ decimal_places n
unfolding decimal
length-decimal n = length_digits 10 (decimal_places n) n

pub decimal-most : (d n : ℕ) → n < 10 ^ suc d → length (decimal n) ≤ suc d
decimal-most d n h = omega (arith, length-decimal n, places-most d n h)

-- std's digits of a number are these
abbrev Same : ℕ → List ℕ → Type 0
Same n ds = ds ≡ decimal n

digit : (d : ℕ) → d < 10 → 48 + d ≡ hex_digit d
unfolding run hex_digit
digit d h = agree (λ (k : ℕ). 48 + k) hex_digit 10 refl d h

one-digit : (n : ℕ) → n < 10 → Same n ((48 + n) ∷ [])
unfolding decimal last_digits
one-digit n h = let e : n % 10 ≡ n = omega arith in rw (places-one n h, last_digits, e, digit n h)

digit-more : (n : ℕ) (ds : List ℕ) → 10 ≤ n → Same (n / 10) ds → Same n (ds ++ ((48 + n % 10) ∷ []))
unfolding decimal last_digits
digit-more n ds h e = rw (e, places-more n h, add-one, last_digits, digit (n % 10) (omega arith))

pub decimal-is : (n : ℕ) → n < 2 ^ 64 → std_decimal n ≡ decimal n
decimal-is = decimal_by_steps Same one-digit digit-more

-- no more digits than the number needs
pub decimal_most : (d n : ℕ) → n < 10 ^ d → n < 2 ^ 64 → 0 < d → length (decimal n) ≤ d
decimal_most d n h k z = rw (sym (decimal-is n k)) (length-decimal-le d n z h k)

pub decimal_short : (n : ℕ) → n < 2 ^ 64 → length (decimal n) ≤ 20
decimal_short n h = decimal_most 20 n (omega arith) h (omega arith)

-- the digits from a place on stand, and those of what is left of the number come before it
pub record Spelling (base many number at : ℕ) (old line : List ℕ) (rest place : ℕ) : Type 0 where
  pub left : ℕ
  pub back : List ℕ
  pub here : place ≡ at + left
  pub count : left + length back ≡ many
  pub same : last_digits base left rest ++ back ≡ last_digits base many number
  pub holds : line ≡ written old place back
  pub fits : at + many ≤ length old

pub spell_begins : (base many number at : ℕ) (old : List ℕ) → at + many ≤ length old
    → Spelling base many number at old old number (at + many)
spell_begins base many number at old h = record {
  left = many;
  back = [];
  here = refl;
  count = omega arith;
  same = append-nil (last_digits base many number);
  holds = sym (written_none old (at + many));
  fits = h;
}

module _ {base many number at : ℕ} {old line : List ℕ} {rest place : ℕ} (w : Spelling base many number at old line rest place) where
  pub spell_length : length line ≡ length old
  spell_length = ap length w.holds ∙ length-written old place w.back (omega (arith, w.here, w.count, w.fits))

  pub spell_low : place ≤ length old
  spell_low = omega (arith, w.here, w.count, w.fits)

  pub spell_more : {b : ℕ} → b ≡ hex_digit (rest % base) → at < place
      → Spelling base many number at old (set line (place - 1) b) (rest / base) (place - 1)
  unfolding last_digits
  spell_more {b} e h = go w.left w.here w.count w.same
    where
      go : (left : ℕ) → place ≡ at + left → left + length w.back ≡ many
          → last_digits base left rest ++ w.back ≡ last_digits base many number
          → Spelling base many number at old (set line (place - 1) b) (rest / base) (place - 1)
      go zero p c s = absurd (omega arith)
      go (suc m) p c s =
          let q : place ≡ place - 1 + 1 = omega arith in
          record {
            left = m;
            back = hex_digit (rest % base) ∷ w.back;
            here = omega arith;
            count = omega arith;
            same = sym (append_assoc (last_digits base m (rest / base)) (hex_digit (rest % base) ∷ []) w.back) ∙ s;
            holds =
                ap₂ (λ (l : List ℕ) (x : ℕ). set l (place - 1) x) (w.holds ∙ ap (λ (k : ℕ). written old k w.back) q) e
                ∙ written-before old (place - 1) (hex_digit (rest % base)) w.back (omega (arith, spell_low));
            fits = w.fits;
          }

  pub spell_ends : place ≤ at → Put old at (last_digits base many number) line (at + many)
  unfolding last_digits
  spell_ends h = go w.left w.here w.count w.same
    where
      go : (left : ℕ) → place ≡ at + left → left + length w.back ≡ many
          → last_digits base left rest ++ w.back ≡ last_digits base many number
          → Put old at (last_digits base many number) line (at + many)
      go (suc m) p c s = absurd (omega arith)
      go zero p c s =
          let q : place ≡ at = omega arith in
          record {
            stands = w.holds ∙ ap₂ (λ (k : ℕ) (l : List ℕ). written old k l) q s;
            reached = omega (arith, length_digits base many number);
            room = omega (arith, length_digits base many number, w.fits);
            size = spell_length;
          }
