-- `ibm,segment-page-sizes` (document 01, "CPU properties and unit text").
use Rattle.std.specs.Prelude.{ℕ, zero, suc, ◌+◌, ◌*◌, true, false, List, [], ◌∷◌, ◌++◌, leb, ltb, length, replicate, Result}
use Rattle.cells.specs.Cells.{cell_at}
use Rattle.refusal.specs.declared.Refusal.{Refusal}
use Rattle.refusal.specs.Refusal.{Outcome, answer, refuse, outcome_of}
use Rattle.refusal.specs.Checks.{Check, check, first_fault}
use Rattle.cells.specs.Rows.{each, padded}
use Rattle.sizes.specs.Sizes.{largest_exponent}
use Rattle.segments.specs.declared.Page.{Page}
use Rattle.segments.specs.declared.Descriptor.{Descriptor}
use Rattle.segments.specs.declared.SegmentTable.{SegmentTable}

-- "1 to 8 descriptors"
abbrev pub most_descriptors : ℕ
most_descriptors = 8

-- "a count 1 to 8"
abbrev pub most_pages : ℕ
most_pages = 8

-- "base exponent, SLB encoding and a count": a header of three cells; "then count pairs of exponent and encoding"
module _ (value : List ℕ) (at : ℕ) where
  abbrev pub base_at : ℕ
  base_at = cell_at value at

  abbrev pub encoding_at : ℕ
  encoding_at = cell_at value (at + 4)

  abbrev pub count_at : ℕ
  count_at = cell_at value (at + 8)

  abbrev pub page_at : ℕ → Page
  page_at j = record { exponent = cell_at value (at + 12 + 8 * j); encoding = cell_at value (at + 16 + 8 * j) }

  -- where the next descriptor begins
  abbrev pub next_at : ℕ
  next_at = at + 12 + 8 * count_at

unfoldable pub no_page : Page
no_page = record { exponent = 0; encoding = 0 }

unfoldable pub descriptor_at : List ℕ → ℕ → Descriptor
descriptor_at value at = record {
  base = base_at value at;
  encoding = encoding_at value at;
  count = count_at value at;
  pages = padded most_pages no_page (each (count_at value at) (page_at value at));
}

-- "Exponents at most 63, none below the base", of the n pages from j on
unfoldable pub page_checks : ℕ → List ℕ → ℕ → ℕ → List (Check ℕ)
page_checks zero value at j = []
page_checks (suc n) value at j =
    check (leb (page_at value at j).exponent largest_exponent) 12
    ∷ check (leb (base_at value at) (page_at value at j).exponent) 12
    ∷ page_checks n value at (suc j)

unfoldable pub exponent_checks : List ℕ → ℕ → ℕ → List (Check ℕ)
exponent_checks value at count = check (leb (base_at value at) largest_exponent) 12 ∷ page_checks count value at 0

-- "At each, in this order: a ninth of sizes is 8, a header cut short 11, a count of 0 .. is 12, a count above 8 is 8, contents cut
-- short 11, an exponent 12", of the descriptor of index i
unfoldable pub descriptor_checks : List ℕ → ℕ → ℕ → List (Check ℕ)
descriptor_checks value i at =
    check (ltb i most_descriptors) 8
    ∷ check (leb (at + 12) (length value)) 11
    ∷ check (ltb 0 (count_at value at)) 12
    ∷ check (leb (count_at value at) most_pages) 8
    ∷ check (leb (next_at value at) (length value)) 11
    ∷ exponent_checks value at (count_at value at)

-- "Descriptors are read from the front", here from index i on, which begins at `at`, until the value ends; the first argument bounds
-- how many
unfoldable pub checks_from : ℕ → List ℕ → ℕ → ℕ → List (Check ℕ)
checks_from zero value i at = []
checks_from (suc most) value i at =
    elim (ltb at (length value)) [ true ↦ descriptor_checks value i at ++ checks_from most value (suc i) (next_at value at) | false ↦ [] ]

unfoldable pub descriptors_from : ℕ → List ℕ → ℕ → List Descriptor
descriptors_from zero value at = []
descriptors_from (suc most) value at =
    elim (ltb at (length value)) [ true ↦ descriptor_at value at ∷ descriptors_from most value (next_at value at) | false ↦ [] ]

-- "at least one (none is 11)"; a ninth is looked at and refused
unfoldable pub segment_checks : List ℕ → List (Check ℕ)
segment_checks value = check (ltb 0 (length value)) 11 ∷ checks_from (suc most_descriptors) value 0 0

unfoldable pub no_descriptor : Descriptor
no_descriptor = record { base = 0; encoding = 0; count = 0; pages = replicate most_pages no_page }

unfoldable pub table_of : List Descriptor → SegmentTable
table_of ds = record { count = length ds; descriptors = padded most_descriptors no_descriptor ds }

unfoldable pub segment_pages : List ℕ → Outcome SegmentTable
segment_pages value =
    first_fault (refuse (table_of [])) (segment_checks value) (answer (table_of (descriptors_from (suc most_descriptors) value 0)))

-- what an answer says: the number of document 01, and the table
abbrev pub segments_outcome : Result SegmentTable Refusal → Outcome SegmentTable
segments_outcome = outcome_of (λ t. t) (table_of [])
