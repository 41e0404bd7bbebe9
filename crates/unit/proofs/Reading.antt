-- Laws of reading a hexadecimal number digit by digit: what is left decides the whole. Assumes nothing.
use mathlib.Core.Path.{◌≡◌, refl, sym, ap, ◌∙◌}
use mathlib.Core.Logic.{⊎_elim}
use mathlib.Core.List.{List}
use Prim.Native.Nat.{ℕ, ◌+◌, ◌*◌, ◌^◌, ◌<◌, ◌≤◌}
use native.Mathlib.Omega.{arith}
use native.Mathlib.Numerals.{add-one}
use lib.Dec.{leb→le}
use lib.ListN.{get_or, length, drop, drop_of_length-le}
use lib.Pow.{pow-add, pow_mono}
use lib.Seq.{drop-cons}
use Rattle.refusal.specs.Refusal.{Outcome, answer, refuse}
use Rattle.refusal.proofs.Checks.{stops, passes, tests, either_way}
use Rattle.std.specs.Prelude.{Some, None}
use Rattle.characters.specs.Characters.{hex_value}
use Rattle.characters.proofs.Table.{hex-below}
use Rattle.unit.specs.Hex.{HexNumber, some_number, no_number, hex_after, hex_number, most_digits, hex_checks, read_number, read_hex}

-- the first i characters are read, and are digits
pub record Read (text : List ℕ) (value i : ℕ) : Type 0 where
  pub within : i ≤ length text
  pub few : length text ≤ most_digits
  pub small : value < 2 ^ (4 * i)
  pub same : hex_after value (drop i text) ≡ hex_number text

module _ {text : List ℕ} {value i : ℕ} (g : Read text value i) where
  pub read-bad : i < length text → hex_value (get_or text i 0) ≡ None → hex_number text ≡ no_number
  unfolding hex_after
  read-bad h e = sym g.same ∙ rw (drop-cons text i 0 h, e, hex_after)

  -- sixteen digits fit 64 bits
  pub room : i < length text → value < 2 ^ 60
  room h =
      let e : 4 * i ≤ 60 = omega (arith, g.few) in
      omega (arith, g.small, pow_mono e)

  pub read_more : {d w : ℕ} → i < length text → hex_value (get_or text i 0) ≡ Some d → w ≡ d → Read text (value * 16 + w) (i + 1)
  unfolding hex_after
  read_more {d} {w} h e q =
      let n : 4 * (i + 1) ≡ 4 * i + 4 = omega arith in
      record {
        within = omega arith;
        few = g.few;
        small = rw (n, pow-add 2 (4 * i) 4) (omega (arith, g.small, hex-below (get_or text i 0) e));
        same = rw (add-one i, q) (sym (rw (drop-cons text i 0 h, e, hex_after)) ∙ g.same);
      }

  pub read_all : length text ≤ i → hex_number text ≡ some_number value
  unfolding hex_after
  read_all h = sym (rw (drop_of_length-le text h) at g.same)

-- how the reading ends
module _ (largest : ℕ) (text : List ℕ) where
  pub read-empty : length text ≡ 0 → refuse 0 20 ≡ read_hex largest text
  unfolding read_hex hex_checks
  read-empty h = go (hex_number text)
    where
      go : (x : HexNumber) → refuse 0 20 ≡ read_number largest text x
      go (some_number n) = sym (stops (refuse 0) 0 0 (hex_checks largest text n) (answer n) (omega (arith, tests)))
      go no_number = refl

  pub read-long : most_digits < length text → refuse 0 20 ≡ read_hex largest text
  unfolding read_hex hex_checks
  read-long h = go (hex_number text)
    where
      go : (x : HexNumber) → refuse 0 20 ≡ read_number largest text x
      go (some_number n) = sym (stops (refuse 0) 0 1 (hex_checks largest text n) (answer n) (omega (arith, tests)))
      go no_number = refl

  pub read-other : hex_number text ≡ no_number → refuse 0 20 ≡ read_hex largest text
  unfolding read_hex
  read-other e = sym (ap (read_number largest text) e)

  module _ {n : ℕ} (e : hex_number text ≡ some_number n) (some : 0 < length text) (few : length text ≤ most_digits) where
    pub read-large : largest < n → refuse 0 12 ≡ read_hex largest text
    unfolding read_hex hex_checks
    read-large h = sym (ap (read_number largest text) e ∙ stops (refuse 0) 0 2 (hex_checks largest text n) (answer n) (omega (arith, tests)))

    pub read-number : n ≤ largest → answer n ≡ read_hex largest text
    unfolding read_hex hex_checks
    read-number h = sym (ap (read_number largest text) e ∙ passes (refuse 0) (hex_checks largest text n) (answer n) (omega (arith, tests)))

  -- what is read is at most the largest number, and 0 for a refusal
  pub at_most : (read_hex largest text).value ≤ largest
  unfolding read_hex hex_checks
  at_most = go (hex_number text)
    where
      go : (x : HexNumber) → (read_number largest text x).value ≤ largest
      go (some_number n) =
          ⊎_elim
          (λ h. omega (arith, ap (λ (o : Outcome ℕ). o.value) h.0, leb→le n largest h.1.1.1.0))
          (λ h. omega (arith, ap (λ (o : Outcome ℕ). o.value) h.1))
          (either_way (refuse 0) (hex_checks largest text n) (answer n))
      go no_number = omega arith
