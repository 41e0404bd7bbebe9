-- What is found of a cell that is at most some number, and of a bit number. Assumes nothing.
use mathlib.Core.Path.{◌≡◌, refl, sym, ap, ◌∙◌}
use mathlib.Core.Bool.{Bool, true, false}
use Prim.Native.Nat.{ℕ}
use native.Mathlib.Omega.{arith}
use borrow.Author.Tests.{le-leb}
use lib.Dec.{leb}
use Rattle.std.specs.Prelude.{Option, None, Some, Ok, Err, unwrap_or}
use Rattle.std.specs.Result.{result_unwrap_or}
use Rattle.tokens.specs.Steps.{pick}
use Rattle.refusal.specs.declared.Refusal.TheVariants.{OutOfRange}
use Rattle.refusal.specs.Refusal.{number_in}
use Rattle.refusal.proofs.Numbers.{numbered}
use Rattle.feature.specs.Feature.{read_as, cell_from, first_of}
use Rattle.feature.proofs.RefusalLaws.{first-left}
use Rattle.nodes.specs.Values.{Value, missing, value, number}
use Rattle.reading.specs.Features.{cell_of}
use Rattle.reader.specs.Parts.{CellResult, cell_fault, CellIs, at_most, NumberIs, BitIs}
use Rattle.reader.proofs.JudgedLaws.{judged-both}
use Rattle.reader.proofs.PropertyLaws.{judged-pick, form-judged, given-judged}

-- a cell that is at most some number: its refusal, and its cell
pub record Ranged (high : ℕ) (needed : Bool) (v : Value) (r : CellResult) : Type 0 where
  pub fault : number_in r ≡ first_of (cell_fault needed v) (pick (leb (number v) high) 0 12)
  pub cell : number_in r ≡ 0 → cell_from (read_as r) ≡ cell_of v

-- the cell of a property, none where it is refused
pub cell-or : (r : CellResult) → result_unwrap_or r None ≡ cell_from (read_as r)
cell-or (Ok c) = refl
cell-or (Err e) = refl

pub number-cell : (v : Value) {c : Option ℕ} → c ≡ cell_of v → number v ≡ unwrap_or c 0
number-cell missing e = rw e
number-cell (value bs) e = rw e

module _ (high : ℕ) {needed : Bool} {v : Value} where
  -- where there is a cell, or none that is needed, its number decides
  by_number : {c : Option ℕ} {r : CellResult} → CellIs needed v (Ok c) → number_in r ≡ pick (leb (unwrap_or c 0) high) 0 12
      → (number_in r ≡ 0 → r ≡ Ok c) → Ranged high needed v r
  by_number {c} {r} h e k = record {
    fault = e ∙ ap (λ (n : ℕ). pick (leb n high) 0 12) (sym (number-cell v (h.cell refl))) ∙ ap (λ (n : ℕ). first_of n (pick (leb (number v) high) 0 12)) h.fault;
    cell = λ z. ap (λ (r : CellResult). cell_from (read_as r)) (k z) ∙ h.cell refl;
  }

  of-cell : (c : CellResult) → CellIs needed v c → Ranged high needed v (at_most high c)
  of-cell (Ok None) h = by_number h (rw (le-leb 0 high (omega arith))) (λ z. refl)
  of-cell (Ok (Some n)) h = go (leb n high) refl
    where
      go : (b : Bool) → leb n high ≡ b → Ranged high needed v (pick b (Ok (Some n)) (Err OutOfRange))
      go true e = by_number h (rw e) (λ z. refl)
      go false e = by_number h (rw e) (λ z. absurd (omega arith))
  of-cell (Err s) h = record {
    fault = h.fault ∙ first-left (cell_fault needed v) (pick (leb (number v) high) 0 12) (λ z. numbered s (h.fault ∙ z));
    cell = λ z. absurd (numbered s z);
  }

  pub ranged : {c r : CellResult} → CellIs needed v c → r ≡ at_most high c → Ranged high needed v r
  ranged {c} h q = rw q (of-cell c h)

pub number_is : (highest : ℕ) {v : Value} {c r : CellResult} → CellIs false v c → r ≡ at_most highest c → NumberIs highest v r
number_is highest {v} h q =
    let g = ranged highest h q in
    record {
      judged = λ at. rw g.fault (judged-both _ _ (form-judged v at) (λ z. judged-pick (leb (number v) highest) 12 at (omega arith)));
      cell = g.cell;
    }

pub bit_is : (highest : ℕ) {needed known : Bool} {v : Value} {c r : CellResult} → needed ≡ known → CellIs needed v c → r ≡ at_most highest c → BitIs highest known v r
bit_is highest {needed} {known} {v} e h q =
    let g = ranged highest h q in
    rw (← e)
    (record {
      judged = λ at. rw g.fault (judged-both _ _ (given-judged needed v at) (λ z. judged-pick (leb (number v) highest) 12 at (omega arith)));
      cell = g.cell;
    })
