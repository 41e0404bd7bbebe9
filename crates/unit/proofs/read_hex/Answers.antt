-- `unit::read_hex` meets its contract. The loop's invariant is `Read`. Assumes nothing.
use mathlib.Core.Path.{◌≡◌, sym, ◌∙◌}
use native.Mathlib.Omega.{arith}
use borrow.Author.Tests.{eqb-true, eqb-false}
use Rattle.std.proofs.lemmas.Result.{err_from_is_err_and}
use Rattle.refusal.specs.declared.Refusal.TheVariants.{UnitText}
use Rattle.characters.proofs.Table.{hex-below}
use Rattle.unit.proofs.Reading.{read-bad, room, read_more, read_all, read-empty, read-long, read-other, read-large, read-number}
use Rattle.unit.proofs.read_hex.Goals as goal
use Rattle.unit.proofs.read_hex.Goals.{then-is_empty-via-then-is_empty, then-is_empty-via-else-is_empty+then-text-gt-MOST_DIGITS}

pub returns-then-is_empty : goal.returns-then-is_empty
returns-then-is_empty c =
    elim c.then-is_empty.branch [
      | then-is_empty-via-then-is_empty w ↦ read-empty _ _ (eqb-true _ _ (sym w.if-is_empty.ensures))
      | then-is_empty-via-else-is_empty+then-text-gt-MOST_DIGITS w ↦ read-long _ _ w.if-text-gt-MOST_DIGITS.true
    ]

pub returns-in_err-digit : goal.returns-in_err-digit
returns-in_err-digit c =
    let p = err_from_is_err_and c.from_residual.result c.from_residual.ensures.1 in
    let e : c.in_err-digit.field-0.0 ≡ UnitText = grind arith in
    rw (p.1, p.2, e)
    (read-other _ _ (read-bad c.loop-character.invariant (omega arith) (sym c.hex_value.ensures ∙ c.in_err-digit.ensures.ok_part)))

pub overflow_mul-value : goal.overflow_mul-value
overflow_mul-value c = omega (arith, room c.loop-character.invariant (omega arith))

pub overflow_add-value : goal.overflow_add-value
overflow_add-value c =
    let low = hex-below _ (sym c.hex_value.ensures ∙ c.in_ok-digit.ensures.ok_part) in
    omega (arith, room c.loop-character.invariant (omega arith), c.from.ensures)

pub loop-character-preserved : goal.loop-character-preserved
loop-character-preserved c =
    read_more c.loop-character.invariant (omega arith) (sym c.hex_value.ensures ∙ c.in_ok-digit.ensures.ok_part) c.from.ensures

pub returns-then-largest-value : goal.returns-then-largest-value
returns-then-largest-value c =
    read-large _ _ (read_all c.loop-character.invariant (omega arith)) (omega (arith, eqb-false _ _ (sym c.if-is_empty.ensures))) (omega arith) c.if-largest-value.true

pub returns : goal.returns
returns c = read-number _ _ (read_all c.loop-character.invariant (omega arith)) (omega (arith, eqb-false _ _ (sym c.if-is_empty.ensures))) (omega arith) c.if-largest-value.false
