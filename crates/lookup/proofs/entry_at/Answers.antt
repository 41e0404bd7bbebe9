-- `lookup::entry_at` meets its contract: one law for each kind of token. Assumes nothing.
use Rattle.std.specs.Prelude.{Err}
use mathlib.Core.Path.{◌≡◌, sym, ◌∙◌}
use native.Mathlib.Omega.{arith}
use borrow.Author.Rules.{rules}
use Rattle.lookup.specs.Parts.{skipped, misnamed, misplaced}
use Rattle.lookup.proofs.Entries.{lies, stands-named, no-place}
use Rattle.lookup.proofs.entry_at.Goals as goal

pub returns-in_err-name_refusal-in-Property : goal.returns-in_err-name_refusal-in-Property
returns-in_err-name_refusal-in-Property c =
    let r : c.from_residual.result ≡ Err c.in_err-name_refusal-in-Property.field-0.0 = search rules in
    rw r (misnamed (sym c.step.ensures.value ∙ c.in-Property.is) (rw c.whole.ensures at c.in_err-name_refusal-in-Property.ensures))

pub overflow_add-span : goal.overflow_add-span
overflow_add-span c = let g = lies _ _ (sym c.step.ensures.value ∙ c.in-Property.is) in omega arith

pub overflow_add-span-in-Property : goal.overflow_add-span-in-Property
overflow_add-span-in-Property c = let g = lies _ _ (sym c.step.ensures.value ∙ c.in-Property.is) in omega arith

pub returns-in_ok-name_refusal-in-Property : goal.returns-in_ok-name_refusal-in-Property
returns-in_ok-name_refusal-in-Property c = stands-named _ _ (sym c.step.ensures.value ∙ c.in-Property.is) _ (rw c.whole.ensures at c.in_ok-name_refusal-in-Property.ensures)

pub returns-in-Nop : goal.returns-in-Nop
returns-in-Nop c = skipped (sym c.step.ensures.value ∙ c.in-Nop.is)

pub returns-in_default : goal.returns-in_default
returns-in_default c = misplaced (sym c.step.ensures.value) (no-place c.step.result c.in_default.not-Property c.in_default.not-Nop)
