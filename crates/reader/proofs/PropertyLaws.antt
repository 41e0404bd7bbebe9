-- What is found of one property of a feature: its form, and the number of dependencies. Assumes nothing.
use mathlib.Core.Path.{◌≡◌, refl, sym, ap, ◌∙◌}
use mathlib.Core.Bool.{Bool, true, false, not}
use mathlib.Core.List.{List, [], ◌∷◌}
use Prim.Native.Nat.{ℕ, ◌/◌, ◌%◌, ◌<◌, ◌≤◌}
use native.Mathlib.Omega.{arith}
use borrow.Author.Tests.{eq-eqb, ne_eqb, le-leb, lt-leb}
use lib.Dec.{eqb, leb}
use lib.ListN.{length, take, drop}
use Rattle.std.specs.Prelude.{None, Some, Ok, Err}
use Rattle.cells.proofs.Rows.{length-each}
use Rattle.names.specs.Names.{either}
use Rattle.tokens.specs.Steps.{pick}
use Rattle.refusal.specs.declared.Refusal.TheVariants.{PropertyForm, TooMany}
use Rattle.refusal.specs.Refusal.{fault, number_in}
use Rattle.refusal.specs.Checks.{check}
use Rattle.record.specs.Record.{most_dependencies}
use Rattle.feature.specs.Feature.{read_as, cell_from, first_of}
use Rattle.nodes.specs.Values.{Value, missing, value, is_given, is_cell_or_missing, is_cells, cells_of}
use Rattle.nodes.specs.Parts.{Lies}
use Rattle.reading.specs.Features.{required_checks, optional_checks, count_of}
use Rattle.reader.specs.Parts.{CellResult, cell_fault, CellIs, Judged, CountIs}
use Rattle.reader.proofs.JudgedLaws.{judged-check, judged-both}
use Rattle.reader.proofs.CellReadLaws.{long}

-- one check, by its own test
pub judged-pick : (b : Bool) (k p : ℕ) → 0 < k → Judged (check b (fault k p) ∷ []) (pick b 0 k) p
judged-pick b k p l = judged-check b k p l (λ e. rw e) (λ e. rw e)

-- a cell's form
pub required-judged : {v : Value} {r : CellResult} → CellIs true v r → (at : ℕ) → Judged (required_checks at v) (number_in r) at
required-judged {v} h at = rw h.fault (go v)
  where
    go : (v : Value) → Judged (required_checks at v) (cell_fault true v) at
    go missing = judged-pick false 11 at (omega arith)
    go (value bs) = judged-pick (eqb (length bs) 4) 11 at (omega arith)

pub form-judged : (v : Value) (at : ℕ) → Judged (optional_checks at v) (cell_fault false v) at
form-judged missing at = judged-pick true 11 at (omega arith)
form-judged (value bs) at = judged-pick (eqb (length bs) 4) 11 at (omega arith)

pub optional-judged : {v : Value} {r : CellResult} → CellIs false v r → (at : ℕ) → Judged (optional_checks at v) (number_in r) at
optional-judged {v} h at = rw h.fault (form-judged v at)

pub given-judged : (needed : Bool) (v : Value) (at : ℕ)
    → Judged (check (either (not needed) (is_given v)) (fault 11 at) ∷ check (is_cell_or_missing v) (fault 11 at) ∷ []) (cell_fault needed v) at
given-judged true missing at = judged-both _ _ (judged-pick false 11 at (omega arith)) (λ z. form-judged missing at)
given-judged false missing at = judged-both _ _ (judged-pick true 11 at (omega arith)) (λ z. form-judged missing at)
given-judged true (value bs) at = judged-both _ _ (judged-pick true 11 at (omega arith)) (λ z. form-judged (value bs) at)
given-judged false (value bs) at = judged-both _ _ (judged-pick true 11 at (omega arith)) (λ z. form-judged (value bs) at)

-- the number of dependencies
count-is : {v : Value} {r : CellResult} → number_in r ≡ first_of (pick (is_cells v) 0 11) (pick (leb (length (cells_of v)) most_dependencies) 0 8)
    → (number_in r ≡ 0 → cell_from (read_as r) ≡ count_of v) → CountIs v r
count-is {v} e c = record {
  judged = λ at. rw e
      (judged-both _ _ (judged-pick (is_cells v) 11 at (omega arith)) (λ z. judged-pick (leb (length (cells_of v)) most_dependencies) 8 at (omega arith)));
  cell = c;
}

pub count-missing : {v : Value} → v ≡ missing → CountIs v (Ok None)
count-missing e = rw e (count-is refl (λ z. refl))

module _ {tree : List ℕ} {v : Value} {from size : ℕ} (g : Lies tree v from size) where
  whole : is_cells v ≡ eqb (size % 4) 0
  whole = rw (g.bytes, long g)

  pub count : length (cells_of v) ≡ size / 4
  count = rw g.bytes (length-each (length (take size (drop from tree)) / 4) _ ∙ rw (long g))

  counted : count_of v ≡ Some (length (cells_of v))
  counted = rw g.bytes

  pub count-ragged : (size % 4 ≡ 0 → ⊥) → CountIs v (Err PropertyForm)
  count-ragged z = count-is (rw (whole, ne_eqb (size % 4) 0 z)) (λ y. absurd (omega arith))

  module _ (z : size % 4 ≡ 0) where
    pub count-many : most_dependencies < size / 4 → CountIs v (Err TooMany)
    count-many l = count-is (rw (whole, eq-eqb (size % 4) 0 z, count, lt-leb (size / 4) most_dependencies l)) (λ y. absurd (omega arith))

    pub count-few : size / 4 ≤ most_dependencies → CountIs v (Ok (Some (size / 4)))
    count-few l =
        count-is (rw (whole, eq-eqb (size % 4) 0 z, count, le-leb (size / 4) most_dependencies l)) (λ y. sym (counted ∙ ap Some count))
