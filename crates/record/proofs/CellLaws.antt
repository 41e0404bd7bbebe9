-- A feature's cells, as the code reads them, and those of a feature that is made of cells. Assumes nothing.
use Prim.Native.Nat.{ℕ, zero, suc, ◌+◌, ◌*◌, ◌/◌, ◌%◌}
use mathlib.Core.Path.{◌≡◌, sym, ap, ◌∙◌}
use mathlib.Core.Bool.{Bool, true, false}
use mathlib.Core.List.{List, [], ◌∷◌}
use native.Mathlib.Omega.{arith}
use lib.ListN.{get_or}
use Rattle.std.specs.Prelude.{Option, None, Some}
use Rattle.positions.specs.Bits.{not_zero, bit}
use Rattle.positions.specs.Below.{one_if}
use Rattle.positions.proofs.BitLaws.{bit-zero, bit-suc, bit-none}
use Rattle.record.specs.Cells.{bit_of, held, when_given, cell, given_in, number_in, word_of_bits, feature_with}
use Rattle.record.specs.declared.Feature.{Feature}
use Rattle.record.specs.declared.Property.{Property}
use Rattle.record.specs.declared.Property.TheVariants.{Isa, UsablePrivilege, HvSupport, OsSupport, HfscrBitNr, FscrBitNr, HwcapBitNr, Phandle, Dependencies}

pub cell-is : (f : Feature) {p q : Property} {x : Option ℕ} → x ≡ when_given (bit f.given (bit_of q)) (held f q) → p ≡ q → x ≡ cell f p
unfolding cell
cell-is f e h = e ∙ ap (cell f) (sym h)

-- a word with one more bit below its bits
bit-first : (b : Bool) (w : ℕ) → bit (one_if b + 2 * w) 0 ≡ b
bit-first true w = let e : (1 + 2 * w) % 2 ≡ 1 = omega arith in bit-zero (1 + 2 * w) ∙ ap not_zero e
bit-first false w = let e : (0 + 2 * w) % 2 ≡ 0 = omega arith in bit-zero (0 + 2 * w) ∙ ap not_zero e

bit-next : (b : Bool) (w i : ℕ) → bit (one_if b + 2 * w) (suc i) ≡ bit w i
bit-next true w i = let e : (1 + 2 * w) / 2 ≡ w = omega arith in bit-suc (1 + 2 * w) i ∙ ap (λ (x : ℕ). bit x i) e
bit-next false w i = let e : (0 + 2 * w) / 2 ≡ w = omega arith in bit-suc (0 + 2 * w) i ∙ ap (λ (x : ℕ). bit x i) e

bit-listed : (bs : List Bool) (i : ℕ) → bit (word_of_bits bs) i ≡ get_or bs i false
unfolding word_of_bits
bit-listed [] i = bit-none i
bit-listed (b ∷ bs) zero = bit-first b (word_of_bits bs)
bit-listed (b ∷ bs) (suc i) = bit-next b (word_of_bits bs) i ∙ bit-listed bs i

given-again : (c : Option ℕ) {b : Bool} → b ≡ given_in c → when_given b (number_in c) ≡ c
given-again None e = ap (λ (b : Bool). when_given b 0) e
given-again (Some n) e = ap (λ (b : Bool). when_given b n) e

-- a feature has the cells that it is made of
module _ (at : ℕ) (cells : Property → Option ℕ) where
  pub cell-with : (p : Property) → cell (feature_with at cells) p ≡ cells p
  unfolding cell bit_of held feature_with
  cell-with Isa = given-again _ (bit-listed _ 0)
  cell-with UsablePrivilege = given-again _ (bit-listed _ 1)
  cell-with HvSupport = given-again _ (bit-listed _ 2)
  cell-with OsSupport = given-again _ (bit-listed _ 3)
  cell-with HfscrBitNr = given-again _ (bit-listed _ 4)
  cell-with FscrBitNr = given-again _ (bit-listed _ 5)
  cell-with HwcapBitNr = given-again _ (bit-listed _ 6)
  cell-with Phandle = given-again _ (bit-listed _ 7)
  cell-with Dependencies = given-again _ (bit-listed _ 8)
