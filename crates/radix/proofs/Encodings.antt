-- A table of cells gives a table of encodings, cell by cell. Assumes nothing.
use mathlib.Core.Path.{◌≡◌, refl, sym, ap, ap₂, ◌∙◌}
use mathlib.Core.List.{List, [], ◌∷◌, ◌++◌, map}
use Prim.Native.Nat.{ℕ, zero, suc, ◌-◌, ◌≤◌}
use lib.Dec.{leb→le}
use lib.ListN.{length, get_or, replicate, length-map, get_or-map}
use Rattle.cells.specs.Cells.{cells_in}
use Rattle.cells.specs.Rows.{each, padded}
use Rattle.cells.proofs.Rows.{length-padded, each-list}
use Rattle.refusal.specs.Refusal.{Outcome}
use Rattle.refusal.proofs.Checks.{Passes, outcome-through, passes-both}
use Rattle.sizes.specs.Sizes.{most_sizes, radix_size, plain_checks, size_checks, size_table, no_sizes, sizes, radix_sizes}
use Rattle.sizes.specs.declared.SizeTable.{SizeTable}
use Rattle.radix.specs.Radix.{encoding_of, no_encoding, radix_table, no_encodings, radix_encodings}
use Rattle.radix.specs.Parts.{encodings_in}
use Rattle.radix.specs.declared.RadixEncoding.{RadixEncoding}
use Rattle.radix.specs.declared.RadixTable.{RadixTable}

-- the encodings of a row, zeros behind it
zeros_of : (n : ℕ) → map encoding_of (replicate n 0) ≡ replicate n no_encoding
zeros_of zero = refl
zeros_of (suc n) = ap (λ (l : List RadixEncoding). no_encoding ∷ l) (zeros_of n)

joined_of : (cells zeros : List ℕ) → map encoding_of (cells ++ zeros) ≡ map encoding_of cells ++ map encoding_of zeros
joined_of [] zeros = refl
joined_of (c ∷ cells) zeros = ap (λ (l : List RadixEncoding). encoding_of c ∷ l) (joined_of cells zeros)

row_of : (cells : List ℕ) → map encoding_of (padded most_sizes 0 cells) ≡ padded most_sizes no_encoding (map encoding_of cells)
row_of cells =
    let l : length (map encoding_of cells) ≡ length cells = length-map cells encoding_of in
    joined_of cells (replicate (most_sizes - length cells) 0) ∙ rw (l, zeros_of (most_sizes - length cells))

in-row : (cells : List ℕ) → length cells ≤ most_sizes → encodings_in (padded most_sizes 0 cells) ≡ padded most_sizes no_encoding (map encoding_of cells)
in-row cells h =
    let cs : List ℕ = padded most_sizes 0 cells in
    let n : length (map encoding_of cs) ≡ most_sizes = length-map cs encoding_of ∙ length-padded most_sizes 0 cells h in
    sym (ap (λ (k : ℕ). each k (λ (i : ℕ). encoding_of (get_or cs i 0))) n)
    ∙ each-list no_encoding (map encoding_of cs) (λ (i : ℕ). encoding_of (get_or cs i 0)) (λ i l. sym (get_or-map encoding_of cs i 0))
    ∙ row_of cells

-- of the table that is read
abbrev pub table_in : SizeTable → RadixTable
table_in t = record { count = t.count; encodings = encodings_in t.exponents }

pub read_table : (cells : List ℕ) → length cells ≤ most_sizes → table_in (size_table cells) ≡ radix_table (map encoding_of cells)
unfolding size_table radix_table
read_table cells h = ap₂ (λ (n : ℕ) (es : List RadixEncoding). record { count = n; encodings = es }) (sym (length-map cells encoding_of)) (in-row cells h)

few-cells : (value : List ℕ) → Passes (size_checks radix_size value) → length (cells_in value) ≤ most_sizes
unfolding size_checks plain_checks
few-cells value p = leb→le (length (cells_in value)) most_sizes (passes-both (plain_checks radix_size value) _ p).0.1.1.0

abbrev pub outcome_in : Outcome SizeTable → Outcome RadixTable
outcome_in o = record { number = o.number; value = table_in o.value }

pub encodings-read : (value : List ℕ) → outcome_in (radix_sizes value) ≡ radix_encodings value
unfolding sizes radix_encodings no_sizes no_encodings
encodings-read value =
    outcome-through table_in no_sizes (size_table (cells_in value)) no_encodings (radix_table (map encoding_of (cells_in value))) (size_checks radix_size value) refl
    (λ p. read_table (cells_in value) (few-cells value p))
