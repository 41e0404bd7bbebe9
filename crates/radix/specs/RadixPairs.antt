-- The values of `ibm,processor-radix-AP-encodings` as a relation in the words of A13 of document 02; `radix_encodings` reads them.
use Rattle.std.specs.Prelude.{ℕ, ◌+◌, ◌*◌, ◌≤◌, ◌<◌, ◌≡◌, length}
use mathlib.Core.List.{List, map, flat_map}
use Rattle.cells.specs.Bytes.{cell_bytes, Each}
use Rattle.sizes.specs.Sizes.{most_sizes, largest_exponent, ap_bit}
use Rattle.sizes.specs.SizeCells.{Ascending}
use Rattle.radix.specs.declared.RadixEncoding.{RadixEncoding}

-- "the AP field; in our hosts it is the top three bits of the cell, the page exponent the other 29"
abbrev pub radix_cell : RadixEncoding → ℕ
radix_cell p = p.ap * ap_bit + p.exponent

-- "1 to 16 cells", each an AP of three bits and an exponent; "Exponents ascend strictly, at most 63"; of APs nothing more is asked
pub record RadixPairs (pairs : List RadixEncoding) (value : List ℕ) : Type 0 where
  pub some : 1 ≤ length pairs
  pub few : length pairs ≤ most_sizes
  pub bits : Each (λ p. p.ap < 8) pairs
  pub low : Each (λ p. p.exponent ≤ largest_exponent) pairs
  pub ascending : Ascending (map (λ (p : RadixEncoding). p.exponent) pairs)
  pub bytes : value ≡ flat_map cell_bytes (map radix_cell pairs)
