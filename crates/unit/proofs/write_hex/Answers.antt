-- `unit::write_hex` meets its contract. The loop's invariant is `Writing`. Assumes nothing.
use mathlib.Core.Path.{sym, ap, ◌∙◌}
use native.Mathlib.Omega.{arith}
use Rattle.refusal.specs.Refusal.{answer, refuse}
use Rattle.refusal.proofs.Checks.{stops, passes, tests}
use Rattle.unit.specs.Hex.{write_checks, write_hex}
use Rattle.unit.proofs.Digits.{writing-none, writing_more, writing-all, after-refused, after-written}
use Rattle.unit.proofs.write_hex.Goals as goal
use Rattle.unit.proofs.write_hex.Goals.{then-buffer-at-via-then-buffer-at, then-buffer-at-via-else-buffer-at+then-buffer-at-2}

pub returns-then-buffer-at-clause-result_value : goal.returns-then-buffer-at-clause-result_value
unfolding write_hex write_checks
returns-then-buffer-at-clause-result_value c =
    let n = c.digit_count-count.ensures in
    elim c.then-buffer-at.branch [
      | then-buffer-at-via-then-buffer-at w ↦ sym (stops (refuse 0) 0 0 _ _ (omega (arith, tests)))
      | then-buffer-at-via-else-buffer-at+then-buffer-at-2 w ↦ sym (stops (refuse 0) 0 0 _ _ (omega (arith, tests)))
    ]

pub returns-then-buffer-at-clause-buffer_after : goal.returns-then-buffer-at-clause-buffer_after
returns-then-buffer-at-clause-buffer_after c =
    let n = c.digit_count-count.ensures in
    elim c.then-buffer-at.branch [
      | then-buffer-at-via-then-buffer-at w ↦ after-refused _ _ _ (omega arith)
      | then-buffer-at-via-else-buffer-at+then-buffer-at-2 w ↦ after-refused _ _ _ (omega arith)
    ]

pub loop-place-init : goal.loop-place-init
loop-place-init c = let n = c.digit_count-count.ensures in (n, omega arith, writing-none _ _ _ _ n (omega arith))

pub loop-place-preserved : goal.loop-place-preserved
loop-place-preserved c = let l = c.loop-place.invariant in (l.0, l.1, writing_more l.2 c.hex_digit.ensures (omega arith))

pub returns-clause-result_value : goal.returns-clause-result_value
unfolding write_hex write_checks
returns-clause-result_value c =
    let l = c.loop-place.invariant in ap answer l.0 ∙ sym (passes (refuse 0) _ _ (omega (arith, tests, l.0, l.1), tt))

pub returns-clause-buffer_after : goal.returns-clause-buffer_after
returns-clause-buffer_after c =
    let l = c.loop-place.invariant in writing-all l.2 (omega arith) ∙ after-written _ _ _ (omega (arith, l.0, l.1))
