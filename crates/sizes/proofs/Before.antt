-- Page sizes answer as they did before A1, for every value. The definition of then went from index to index: each cell at most 63, and above
-- its predecessor. Assumes nothing.
use mathlib.Core.Path.{◌≡◌, refl, ap, ◌∙◌}
use mathlib.Core.Bool.{Bool, true}
use mathlib.Core.List.{List, [], ◌∷◌, map}
use Prim.Native.Nat.{ℕ, zero, suc, ◌+◌, ◌*◌, ◌/◌, ◌%◌}
use native.Mathlib.Omega.{arith}
use lib.Dec.{leb, ltb, eqb}
use lib.ListN.{length, drop}
use lib.Seq.{drop-cons, drop-length}
use Rattle.std.specs.Prelude.{Option, Some, None}
use Rattle.refusal.specs.Refusal.{Outcome, answer, refuse}
use Rattle.refusal.specs.Checks.{Check, check, first_fault}
use Rattle.cells.specs.Cells.{cell_at, cells_in}
use Rattle.cells.specs.Rows.{each, padded}
use Rattle.cells.proofs.Rows.{row-at}
use Rattle.cells.proofs.CellRows.{count-cells}
use Rattle.sizes.specs.Sizes.{most_sizes, largest_exponent, size_only, ascends, place_checks, plain_checks, no_sizes, size_table, page_sizes}
use Rattle.sizes.specs.declared.SizeTable.{SizeTable}
use Rattle.sizes.proofs.Accepted.{sizes-plain}

module _ (value : List ℕ) where
  abbrev count : ℕ
  count = length value / 4

  abbrev cell : ℕ → ℕ
  cell i = cell_at value (4 * i)

  abbrev above_predecessor : ℕ → Bool
  above_predecessor zero = true
  above_predecessor (suc i) = ltb (cell i) (cell (suc i))

  abbrev cell_checks : ℕ → ℕ → List (Check ℕ)
  cell_checks zero i = []
  cell_checks (suc n) i = check (leb (cell i) largest_exponent) 12 ∷ check (above_predecessor i) 19 ∷ cell_checks n (suc i)

  abbrev checks_before : List (Check ℕ)
  checks_before =
      check (ltb 0 (length value)) 11 ∷ check (eqb (length value % 4) 0) 11 ∷ check (leb count most_sizes) 8 ∷ cell_checks count 0

  abbrev pub sizes_before : Outcome SizeTable
  sizes_before =
      first_fault (refuse no_sizes) checks_before (answer (record { count = count; exponents = padded most_sizes 0 (each count cell) }))

  -- the last size before an index
  abbrev last_at : ℕ → Option ℕ
  last_at zero = None
  last_at (suc i) = Some (cell i)

  same-order : (i : ℕ) → ascends (last_at i) (cell i) ≡ above_predecessor i
  unfolding ascends
  same-order zero = refl
  same-order (suc i) = refl

  same-checks : (n i : ℕ) → i + n ≡ count → place_checks (last_at i) (map size_only (drop i (cells_in value))) ≡ cell_checks n i
  unfolding place_checks
  same-checks zero i e =
      let end : i ≡ length (cells_in value) = omega (arith, count-cells value) in
      rw (end, drop-length (cells_in value))
  same-checks (suc n) i e =
      let here : drop i (cells_in value) ≡ cell i ∷ drop (suc i) (cells_in value) =
      drop-cons (cells_in value) i 0 (omega (arith, count-cells value))
      ∙ ap (λ (c : ℕ). c ∷ drop (suc i) (cells_in value)) (row-at count cell i 0 (omega arith)) in
      rw (here, same-order i, same-checks n (suc i) (omega arith))

  pub as_before : page_sizes value ≡ sizes_before
  unfolding plain_checks size_table
  as_before = sizes-plain size_only value refl ∙ rw (count-cells value, same-checks count 0 (omega arith))
