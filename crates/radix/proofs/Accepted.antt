-- A value of `ibm,processor-radix-AP-encodings` is accepted exactly when it is the bytes of pairs within bounds; it is that of one list of pairs only,
-- and the answer is the table of these. AP and exponent are the two parts of the cell. Assumes nothing.
use mathlib.Core.Path.{◌≡◌, refl, sym, ap, ap₂, ◌∙◌}
use mathlib.Core.List.{List, [], ◌∷◌, map, flat_map}
use mathlib.Core.Logic.{◌↔◌}
use Prim.Native.Nat.{ℕ, ◌%◌, ◌<◌, ◌≤◌}
use native.Mathlib.Omega.{arith}
use lib.ListN.{length, length-map}
use Rattle.refusal.specs.Refusal.{Outcome, answer}
use Rattle.cells.specs.Cells.{cells_in}
use Rattle.cells.specs.Bytes.{IsByte, IsCell, cell_bytes, Each}
use Rattle.cells.proofs.CellRows.{cells-back}
use Rattle.sizes.specs.Sizes.{largest_exponent, ap_bit, radix_size, exponents_in}
use Rattle.sizes.specs.SizeCells.{SizeCells}
use Rattle.sizes.proofs.Accepted.{sizes-read, sizes-accepts}
use Rattle.radix.specs.Radix.{encoding_of, radix_table, radix_encodings}
use Rattle.radix.specs.RadixPairs.{radix_cell, RadixPairs}
use Rattle.radix.specs.declared.RadixEncoding.{RadixEncoding}
use Rattle.radix.specs.declared.RadixTable.{RadixTable}
use Rattle.radix.proofs.Encodings.{outcome_in, encodings-read, read_table}

-- the parts of a cell make the cell, and a cell has the parts that it was made of
pub parts-make : (n : ℕ) → radix_cell (encoding_of n) ≡ n
parts-make n = omega arith

pub made-parts : (p : RadixEncoding) → p.exponent < ap_bit → encoding_of (radix_cell p) ≡ p
made-parts p h =
    let a : (encoding_of (radix_cell p)).ap ≡ p.ap = omega arith in
    let e : (encoding_of (radix_cell p)).exponent ≡ p.exponent = omega arith in
    ap₂ (λ (m n : ℕ). record { ap = m; exponent = n }) a e

-- the same of lists
cells-made : (cells : List ℕ) → map radix_cell (map encoding_of cells) ≡ cells
cells-made [] = refl
cells-made (c ∷ cells) = ap₂ (λ (n : ℕ) (l : List ℕ). n ∷ l) (parts-make c) (cells-made cells)

abbrev Low : List RadixEncoding → Type 0
Low = Each (λ p. p.exponent ≤ largest_exponent)

pairs_made : (pairs : List RadixEncoding) → Low pairs → map encoding_of (map radix_cell pairs) ≡ pairs
pairs_made [] h = refl
pairs_made (p ∷ pairs) h = ap₂ (λ (q : RadixEncoding) (l : List RadixEncoding). q ∷ l) (made-parts p (omega (arith, h.0))) (pairs_made pairs h.1)

-- the exponents of cells
abbrev exponents : List RadixEncoding → List ℕ
exponents = map (λ (p : RadixEncoding). p.exponent)

exponents-in : (cells : List ℕ) → exponents_in (map radix_size cells) ≡ exponents (map encoding_of cells)
exponents-in [] = refl
exponents-in (c ∷ cells) = ap (λ (l : List ℕ). c % ap_bit ∷ l) (exponents-in cells)

low-in : (pairs : List RadixEncoding) → Low pairs → Each (λ e. e ≤ largest_exponent) (exponents pairs)
low-in [] h = tt
low-in (p ∷ pairs) h = (h.0, low-in pairs h.1)

low-out : (pairs : List RadixEncoding) → Each (λ e. e ≤ largest_exponent) (exponents pairs) → Low pairs
low-out [] h = tt
low-out (p ∷ pairs) h = (h.0, low-out pairs h.1)

-- cells of 32 bits are those whose AP has three
abbrev ThreeBits : List RadixEncoding → Type 0
ThreeBits = Each (λ p. p.ap < 8)

three-bits : (cells : List ℕ) → Each IsCell cells → ThreeBits (map encoding_of cells)
three-bits [] h = tt
three-bits (c ∷ cells) h = (omega (arith, h.0), three-bits cells h.1)

are-cells : (pairs : List RadixEncoding) → ThreeBits pairs → Low pairs → Each IsCell (map radix_cell pairs)
are-cells [] b h = tt
are-cells (p ∷ pairs) b h = (omega (arith, b.0, h.0), are-cells pairs b.1 h.1)

-- pairs within bounds are cells with sizes within bounds, and the other way round
module _ (value : List ℕ) where
  to-cells : (pairs : List RadixEncoding) → RadixPairs pairs value → SizeCells radix_size (map radix_cell pairs) value
  to-cells pairs g =
      let cells : List ℕ = map radix_cell pairs in
      let e : exponents_in (map radix_size cells) ≡ exponents pairs = exponents-in cells ∙ ap exponents (pairs_made pairs g.low) in
      record {
        few = omega (arith, length-map pairs radix_cell, g.few);
        sized = record {
          some = omega (arith, ap length e, length-map pairs (λ (p : RadixEncoding). p.exponent), g.some);
          low = rw e (low-in pairs g.low);
          ascending = rw e g.ascending;
        };
        numbers = are-cells pairs g.bits g.low;
        bytes = g.bytes;
      }

  to-pairs : (cells : List ℕ) → SizeCells radix_size cells value → RadixPairs (map encoding_of cells) value
  to-pairs cells g =
      let pairs : List RadixEncoding = map encoding_of cells in
      record {
        some = omega (arith, ap length (exponents-in cells), length-map pairs (λ (p : RadixEncoding). p.exponent), g.sized.some);
        few = omega (arith, length-map cells encoding_of, g.few);
        bits = three-bits cells g.numbers;
        low = low-out pairs (rw (exponents-in cells) at g.sized.low);
        ascending = rw (exponents-in cells) at g.sized.ascending;
        bytes = g.bytes ∙ ap (flat_map cell_bytes) (sym (cells-made cells));
      }

  -- the answer is the table of the pairs
  pub radix-read : (pairs : List RadixEncoding) → RadixPairs pairs value → radix_encodings value ≡ answer (radix_table pairs)
  radix-read pairs g =
      let cells : List ℕ = map radix_cell pairs in
      sym (encodings-read value)
      ∙ ap outcome_in (sizes-read radix_size cells value (to-cells pairs g))
      ∙ ap (λ (t : RadixTable). answer t) (read_table cells (omega (arith, length-map pairs radix_cell, g.few)) ∙ ap radix_table (pairs_made pairs g.low))

  -- there is one such list
  pub radix-once : (a b : List RadixEncoding) → RadixPairs a value → RadixPairs b value → a ≡ b
  radix-once a b g h = sym (from a g) ∙ from b h
    where
      from : (pairs : List RadixEncoding) → RadixPairs pairs value → map encoding_of (cells_in value) ≡ pairs
      from pairs k = rw k.bytes (ap (map encoding_of) (cells-back (map radix_cell pairs)) ∙ pairs_made pairs k.low)

  -- a value is accepted exactly when there is one
  pub radix-accepts : Each IsByte value → (radix_encodings value).number ≡ 0 ↔ ((pairs : List RadixEncoding) × RadixPairs pairs value)
  radix-accepts bytes = (found, λ g. ap (λ (r : Outcome RadixTable). r.number) (radix-read g.0 g.1))
    where
      found : (radix_encodings value).number ≡ 0 → (pairs : List RadixEncoding) × RadixPairs pairs value
      found e =
          let g = (sizes-accepts radix_size value bytes).0 (ap (λ (r : Outcome RadixTable). r.number) (encodings-read value) ∙ e) in
          (map encoding_of g.0, to-pairs g.0 g.1)
