-- Sizes in plain cells: `ibm,processor-page-sizes` and `ibm,processor-segment-sizes` (document 01, "CPU properties and unit text"; document
-- 02, A1), and those in the cells of `ibm,processor-radix-AP-encodings` (document 02, A13). How a cell reads is a rule of the property, and
-- the checks are stated over any such rule.
use Rattle.std.specs.Prelude.{ℕ, ◌-◌, ◌%◌, ◌^◌, Bool, true, cond, List, [], ◌∷◌, ◌++◌, map, leb, ltb, eqb, length, replicate, Option, None, Some, Result}
use Rattle.cells.specs.Cells.{cells_in}
use Rattle.refusal.specs.declared.Refusal.{Refusal}
use Rattle.refusal.specs.Refusal.{Outcome, answer, refuse, outcome_of}
use Rattle.refusal.specs.Checks.{Check, check, first_fault}
use Rattle.cells.specs.Rows.{padded}
use Rattle.sizes.specs.declared.SizeTable.{SizeTable}

-- "1 to 16 cells"
abbrev pub most_sizes : ℕ
most_sizes = 16

-- "a power of two's exponent, at most 63"
abbrev pub largest_exponent : ℕ
largest_exponent = 63

-- a cell of all ones
abbrev pub no_size : ℕ
no_size = 2 ^ 32 - 1

-- How a cell reads. Of page sizes, each is a size
abbrev pub size_only : ℕ → Option ℕ
size_only n = Some n

-- of segment sizes, "cells of all ones .. In this property such a cell now means "no size here""
unfoldable pub size_or_none : ℕ → Option ℕ
size_or_none n = cond (eqb n no_size) None (Some n)

-- of radix encodings, "the AP field; in our hosts it is the top three bits of the cell, the page exponent the other 29"
abbrev pub ap_bit : ℕ
ap_bit = 2 ^ 29

abbrev pub radix_size : ℕ → Option ℕ
radix_size n = Some (n % ap_bit)

-- the exponents of the places that have a size, in order
abbrev pub exponents_in : List (Option ℕ) → List ℕ
exponents_in [] = []
exponents_in (None ∷ places) = exponents_in places
exponents_in (Some e ∷ places) = e ∷ exponents_in places

-- "strictly ascending": above the last size before it
unfoldable pub ascends : Option ℕ → ℕ → Bool
ascends None e = true
ascends (Some last) e = ltb last e

-- "then cell by cell, 12 before 19", where a size stands
unfoldable pub place_checks : Option ℕ → List (Option ℕ) → List (Check ℕ)
place_checks last [] = []
place_checks last (None ∷ places) = place_checks last places
place_checks last (Some e ∷ places) = check (leb e largest_exponent) 12 ∷ check (ascends last e) 19 ∷ place_checks (Some e) places

-- "Plain cells: length first (11), maxima (8), then cell by cell"
unfoldable pub plain_checks : (ℕ → Option ℕ) → List ℕ → List (Check ℕ)
plain_checks rule value =
    check (ltb 0 (length value)) 11
    ∷ check (eqb (length value % 4) 0) 11
    ∷ check (leb (length (cells_in value)) most_sizes) 8
    ∷ place_checks None (map rule (cells_in value))

-- "gaps only is 11, after all cell checks"
unfoldable pub size_checks : (ℕ → Option ℕ) → List ℕ → List (Check ℕ)
size_checks rule value = plain_checks rule value ++ (check (ltb 0 (length (exponents_in (map rule (cells_in value))))) 11 ∷ [])

-- a table of cells: their number, "its place is kept", and zeros
unfoldable pub size_table : List ℕ → SizeTable
size_table cells = record { count = length cells; exponents = padded most_sizes 0 cells }

unfoldable pub no_sizes : SizeTable
no_sizes = record { count = 0; exponents = replicate most_sizes 0 }

unfoldable pub sizes : (ℕ → Option ℕ) → List ℕ → Outcome SizeTable
sizes rule value = first_fault (refuse no_sizes) (size_checks rule value) (answer (size_table (cells_in value)))

abbrev pub page_sizes : List ℕ → Outcome SizeTable
page_sizes = sizes size_only

abbrev pub segment_sizes : List ℕ → Outcome SizeTable
segment_sizes = sizes size_or_none

abbrev pub radix_sizes : List ℕ → Outcome SizeTable
radix_sizes = sizes radix_size

-- what an answer says: the number of document 01, and the table
abbrev pub sizes_outcome : Result SizeTable Refusal → Outcome SizeTable
sizes_outcome = outcome_of (λ t. t) no_sizes
