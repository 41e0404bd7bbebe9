-- A value is accepted exactly when it is the bytes of cells with sizes within bounds; it is that of one list of cells only, and the answer is
-- the table of these. Assumes nothing.
use mathlib.Core.Path.{◌≡◌, refl, sym, ap, ap₂, ◌∙◌}
use mathlib.Core.List.{List, [], ◌∷◌, map}
use mathlib.Core.Logic.{◌↔◌}
use Prim.Native.Nat.{ℕ, ◌-◌, ◌*◌, ◌%◌, ◌<◌, ◌≤◌}
use native.Mathlib.Omega.{arith}
use lib.Dec.{leb→le, ltb→lt, eqb→eq}
use lib.ListN.{length, replicate}
use lib.Seq.{take-append_seam}
use Rattle.std.specs.Prelude.{Option, Some, None}
use Rattle.refusal.specs.Refusal.{Outcome, answer, refuse}
use Rattle.refusal.specs.Checks.{first_fault}
use Rattle.refusal.proofs.Checks.{Passes, Numbered, passes, passes-join, passes-both, numbered-both, follows, answered, tests}
use Rattle.cells.specs.Cells.{cells_in}
use Rattle.cells.specs.Bytes.{IsByte, Each}
use Rattle.cells.proofs.CellRows.{length-cells, count-cells, cells-back, bytes_back, are-cells}
use Rattle.sizes.specs.Sizes.{most_sizes, largest_exponent, no_size, size_only, size_or_none, exponents_in, ascends, place_checks, plain_checks, size_checks, no_sizes, size_table, sizes, page_sizes, segment_sizes}
use Rattle.sizes.specs.SizeCells.{Ascending, Sized, SizeCells, places_in}
use Rattle.sizes.specs.declared.SizeTable.{SizeTable}
use Rattle.sizes.proofs.Rules.{size-read}

-- exponents in front of which a size stands, or none
abbrev After : Option ℕ → List ℕ → Type 0
After None es = Ascending es
After (Some e) es = Ascending (e ∷ es)

-- the checks of places hold exactly where their exponents are within bounds and ascend
checked-within : (last : Option ℕ) (places : List (Option ℕ)) → Passes (place_checks last places) → Each (λ e. e ≤ largest_exponent) (exponents_in places) × After last (exponents_in places)
unfolding place_checks ascends
checked-within None [] h = (tt, tt)
checked-within (Some l) [] h = (tt, tt)
checked-within last (None ∷ places) h = checked-within last places h
checked-within None (Some e ∷ places) h =
    let r = checked-within (Some e) places h.1.1 in
    ((leb→le e largest_exponent h.0, r.0), r.1)
checked-within (Some l) (Some e ∷ places) h =
    let r = checked-within (Some e) places h.1.1 in
    ((leb→le e largest_exponent h.0, r.0), (ltb→lt l e h.1.0, r.1))

within-checked : (last : Option ℕ) (places : List (Option ℕ)) → Each (λ e. e ≤ largest_exponent) (exponents_in places) → After last (exponents_in places) → Passes (place_checks last places)
unfolding place_checks ascends
within-checked None [] h a = tt
within-checked (Some l) [] h a = tt
within-checked None (None ∷ places) h a = within-checked None places h a
within-checked (Some l) (None ∷ places) h a = within-checked (Some l) places h a
within-checked None (Some e ∷ places) h a = (omega (arith, tests, h.0), (tt, within-checked (Some e) places h.1 a))
within-checked (Some l) (Some e ∷ places) h a =
    (omega (arith, tests, h.0), (omega (arith, tests, a.0), within-checked (Some e) places h.1 a.1))

-- every fault is a number of the table
numbered-cells : (last : Option ℕ) (places : List (Option ℕ)) → Numbered (place_checks last places)
unfolding place_checks
numbered-cells last [] = tt
numbered-cells last (None ∷ places) = numbered-cells last places
numbered-cells last (Some e ∷ places) = (omega arith, (omega arith, numbered-cells (Some e) places))

module _ (rule : ℕ → Option ℕ) where
  abbrev places_of : List ℕ → List (Option ℕ)
  places_of value = map rule (cells_in value)

  numbered-sizes : (value : List ℕ) → Numbered (size_checks rule value)
  unfolding size_checks plain_checks
  numbered-sizes value =
      numbered-both (plain_checks rule value) _ (omega arith, (omega arith, (omega arith, numbered-cells None (places_of value)))) (omega arith, tt)

  -- the bytes of cells within bounds pass
  cells-pass : (value : List ℕ) → length (cells_in value) ≤ most_sizes → 0 < length value → length value % 4 ≡ 0 → Sized (places_of value) → Passes (size_checks rule value)
  unfolding size_checks plain_checks
  cells-pass value few some whole g =
      passes-join (plain_checks rule value) _
      (omega (arith, tests), (omega (arith, tests), (omega (arith, tests), within-checked None (places_of value) g.low g.ascending)))
      (omega (arith, tests, g.some), tt)

  some-cells : (cells : List ℕ) → 1 ≤ length (exponents_in (map rule cells)) → 0 < length cells
  some-cells [] h = absurd (omega arith)
  some-cells (c ∷ cs) h = omega arith

  module _ (cells value : List ℕ) (g : SizeCells rule cells value) where
    are-read : cells_in value ≡ cells
    are-read = rw g.bytes (cells-back cells)

    long : length value ≡ 4 * length cells
    long = rw g.bytes (length-cells cells)

    -- the answer is the table of the cells
    pub sizes-read : sizes rule value ≡ answer (size_table cells)
    unfolding sizes
    sizes-read =
        let some = some-cells cells g.sized.some in
        let few : length (cells_in value) ≤ most_sizes = rw are-read g.few in
        passes (refuse no_sizes) (size_checks rule value) (answer (size_table (cells_in value)))
        (cells-pass value few (omega (arith, long)) (omega (arith, long)) (rw are-read g.sized))
        ∙ ap (λ (l : List ℕ). answer (size_table l)) are-read

  -- there is one such list
  pub sizes-once : (a b value : List ℕ) → SizeCells rule a value → SizeCells rule b value → a ≡ b
  sizes-once a b value g h = sym (are-read a value g) ∙ are-read b value h

  -- a value is accepted exactly when there is one
  pub sizes-accepts : (value : List ℕ) → Each IsByte value → (sizes rule value).number ≡ 0 ↔ ((cells : List ℕ) × SizeCells rule cells value)
  unfolding sizes size_checks plain_checks
  sizes-accepts value bytes = (found, λ g. ap (λ (o : Outcome SizeTable). o.number) (sizes-read g.0 value g.1))
    where
      found : (sizes rule value).number ≡ 0 → (cells : List ℕ) × SizeCells rule cells value
      found e =
          let all = answered no_sizes (size_table (cells_in value)) (size_checks rule value) (numbered-sizes value) e in
          let parts = passes-both (plain_checks rule value) _ all in
          let within = checked-within None (places_of value) parts.0.1.1.1 in (
            cells_in value,
            record {
              few = leb→le (length (cells_in value)) most_sizes parts.0.1.1.0;
              sized = record { some = ltb→lt 0 (length (exponents_in (places_of value))) parts.1.0; low = within.0; ascending = within.1 };
              numbers = are-cells value bytes;
              bytes = sym (bytes_back value bytes (eqb→eq (length value % 4) 0 parts.0.1.0));
            },
          )

-- where each cell is a size, the checks of plain cells alone decide
exponents-only : (cells : List ℕ) → exponents_in (map size_only cells) ≡ cells
exponents-only [] = refl
exponents-only (c ∷ cs) = rw (exponents-only cs)

pub sizes-plain : (rule : ℕ → Option ℕ) (value : List ℕ) → map rule (cells_in value) ≡ map size_only (cells_in value)
    → sizes rule value ≡ first_fault (refuse no_sizes) (plain_checks size_only value) (answer (size_table (cells_in value)))
unfolding sizes size_checks plain_checks
sizes-plain rule value e =
    rw e
    (follows (refuse no_sizes) (plain_checks size_only value) _ (answer (size_table (cells_in value)))
    (λ h. omega (arith, tests, ltb→lt 0 (length value) h.0, eqb→eq (length value % 4) 0 h.1.0, count-cells value, ap length (exponents-only (cells_in value)))))

-- with no cell of all ones, segment sizes are those of document 01, as page sizes are
no_none : (cells : List ℕ) → Each (λ n. n ≡ no_size → ⊥) cells → map size_or_none cells ≡ map size_only cells
no_none [] h = refl
no_none (c ∷ cs) h = ap₂ ◌∷◌ (sym (size-read c h.0)) (no_none cs h.1)

pub without-gaps : (value : List ℕ) → Each (λ n. n ≡ no_size → ⊥) (cells_in value) → segment_sizes value ≡ page_sizes value
without-gaps value h = sizes-plain size_or_none value (no_none (cells_in value) h) ∙ sym (sizes-plain size_only value refl)

-- each cell is in its place
pub places-read : (cells value : List ℕ) → SizeCells size_or_none cells value → places_in (segment_sizes value).value ≡ map size_or_none cells
unfolding size_table
places-read cells value g =
    rw (sizes-read size_or_none cells value g) (ap (map size_or_none) (take-append_seam cells (replicate (most_sizes - length cells) 0)))
