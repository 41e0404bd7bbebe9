-- What the parts of the code answer. The promises of the public functions rest on `Words`, not on this file.
use Rattle.std.specs.Prelude.{ℕ, ◌/◌, ◌%◌, ◌^◌, ◌≡◌, Bool, ◌&&◌, cond, ltb, List, Option}
use Rattle.std.specs.Int.Bits.{bit_and, bit_or}
use Rattle.record.specs.declared.Record.{Record}
use Rattle.record.specs.declared.Feature.{Feature}
use Rattle.record.specs.Cells.{cell, low_bit}
use Rattle.record.specs.declared.Property.TheVariants.{HvSupport, OsSupport, HfscrBitNr, FscrBitNr, HwcapBitNr}
use Rattle.permitted.specs.declared.Grants.{Grants}
use Rattle.permitted.specs.Permitted.{system, hypervisor}
use Rattle.words.specs.declared.Bits.{Bits}
use Rattle.words.specs.Words.{WordValues, word_of, is_number, capability_bit, support_bit}

-- the bit of a number, where something holds
unfoldable pub bit_where : Bool → Option ℕ → ℕ
bit_where b c = word_of (λ (n : ℕ). b && is_number c n)

-- the bits of one feature
pub record FeatureBits (f : Feature) (on : Bool) (x : Bits) : Type 0 where
  pub hwcap : x.hwcap ≡ bit_where on (cell f HwcapBitNr)
  pub hfscr : x.hfscr ≡ bit_where (on && low_bit (cell f HvSupport)) (cell f HfscrBitNr)
  pub fscr : x.fscr ≡ bit_where (on && low_bit (cell f OsSupport)) (cell f FscrBitNr)

-- the bits of both
abbrev pub bits_of_both : Bits → Bits → Bits
bits_of_both x y = record { hwcap = bit_or x.hwcap y.hwcap; hfscr = bit_or x.hfscr y.hfscr; fscr = bit_or x.fscr y.fscr }

-- the bits of the enabled features
pub record BitsOf (r : Record) (enabled : List ℕ) (x : Bits) : Type 0 where
  pub hwcap : x.hwcap ≡ word_of (capability_bit r enabled)
  pub hfscr : x.hfscr ≡ word_of (support_bit r enabled HvSupport HfscrBitNr)
  pub fscr : x.fscr ≡ word_of (support_bit r enabled OsSupport FscrBitNr)

-- a word below a level; elsewhere zero
unfoldable pub below_level : ℕ → ℕ → ℕ → ℕ
below_level upper level word = cond (ltb level upper) word 0

-- the words of the bits of the enabled features, at a level under grants
unfoldable pub levelled : Bits → ℕ → Grants → WordValues
levelled x level g = record {
  first = below_level system level x.hwcap % 2 ^ 32;
  second = below_level system level x.hwcap / 2 ^ 32;
  hfscr = below_level hypervisor level (bit_and x.hfscr g.hfscr);
  fscr = below_level system level (bit_and x.fscr g.fscr);
}
