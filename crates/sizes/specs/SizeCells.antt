-- The values of page sizes and segment sizes as a relation in the papers' words; `sizes` reads them. Document 01: "1 to 16 cells, each a power of
-- two's exponent, at most 63, strictly ascending". Document 02, A1: "The other cells still ascend strictly. .. gaps only is 11".
use Rattle.std.specs.Prelude.{ℕ, ◌≤◌, ◌<◌, ◌≡◌, length, take, Option}
use mathlib.Core.List.{List, [], ◌∷◌, map, flat_map}
use Rattle.cells.specs.Bytes.{IsCell, cell_bytes, Each}
use Rattle.sizes.specs.Sizes.{most_sizes, largest_exponent, size_or_none, exponents_in}
use Rattle.sizes.specs.declared.SizeTable.{SizeTable}

-- "strictly ascending", from each to the next
abbrev pub Ascending : List ℕ → Type 0
Ascending [] = Unit
Ascending (e ∷ []) = Unit
Ascending (e ∷ (next ∷ es)) = (e < next) × Ascending (next ∷ es)

-- places with sizes: at least one; of these "at most 63, strictly ascending"
pub record Sized (places : List (Option ℕ)) : Type 0 where
  pub some : 1 ≤ length (exponents_in places)
  pub low : Each (λ e. e ≤ largest_exponent) (exponents_in places)
  pub ascending : Ascending (exponents_in places)

-- a value of at most 16 cells, of which each gives a place by the rule
pub record SizeCells (rule : ℕ → Option ℕ) (cells value : List ℕ) : Type 0 where
  pub few : length cells ≤ most_sizes
  pub sized : Sized (map rule cells)
  pub numbers : Each IsCell cells
  pub bytes : value ≡ flat_map cell_bytes cells

-- the places of a table of segment sizes
abbrev pub places_in : SizeTable → List (Option ℕ)
places_in t = map size_or_none (take t.count t.exponents)
