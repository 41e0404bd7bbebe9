-- `attributes::type_zero` meets its contract. The loop's invariant is `Scan`. Assumes nothing.
use mathlib.Core.Path.{sym}
use Prim.Native.Nat.{◌+◌, ◌≤◌}
use native.Mathlib.Omega.{arith}
use borrow.Author.Rules.{rules}
use borrow.Author.Tests.{eqb-true, eqb-false}
use lib.ListN.{length}
use Rattle.std.proofs.lemmas.Result.{err_from_is_err_and}
use Rattle.refusal.proofs.Numbers.{numbered}
use Rattle.refusal.proofs.Checks.{stops-with, tests}
use Rattle.attributes.specs.Attributes.{attribute_checks}
use Rattle.attributes.proofs.Scan.{scan-none, scan-stops, next-inside, scan-other, scan-found, found_none, found-two, found-one, found-bytes}
use Rattle.attributes.proofs.type_zero.Goals as goal

pub returns-then-is_empty-clause-refusal : goal.returns-then-is_empty-clause-refusal
unfolding attribute_checks
returns-then-is_empty-clause-refusal c = stops-with 0 _ (omega (arith, tests, eqb-true _ _ (sym c.if-is_empty.ensures)))

pub loop-at-init : goal.loop-at-init
loop-at-init c = scan-none _ (omega (arith, eqb-false _ _ (sym c.if-is_empty.ensures)))

pub returns-in_err-check_descriptor-clause-refusal : goal.returns-in_err-check_descriptor-clause-refusal
returns-in_err-check_descriptor-clause-refusal c =
    let p = err_from_is_err_and c.from_residual.result c.from_residual.ensures.1 in
    rw (p.1, p.2) (scan-stops c.loop-at.invariant (omega arith) c.in_err-check_descriptor.ensures (numbered _))

pub bounds-value-at-in-loop-at : goal.bounds-value-at-in-loop-at
bounds-value-at-in-loop-at c = omega (arith, next-inside c.loop-at.invariant (omega arith) c.in_ok-check_descriptor.ensures)

pub slice_bounds-bytes-end-then-value-at-eq0 : goal.slice_bounds-bytes-end-then-value-at-eq0
slice_bounds-bytes-end-then-value-at-eq0 c =
    let h : c.loop-at.at + 2 + c.from.result ≤ length c.args.value.now =
    omega (arith, next-inside c.loop-at.invariant (omega arith) c.in_ok-check_descriptor.ensures, c.from.ensures) in
    search rules

pub loop-at-preserved-then-value-at-eq0 : goal.loop-at-preserved-then-value-at-eq0
loop-at-preserved-then-value-at-eq0 c =
    rw c.from.ensures (scan-found c.loop-at.invariant (omega arith) c.in_ok-check_descriptor.ensures c.if-value-at-eq0.true)

pub loop-at-preserved : goal.loop-at-preserved
loop-at-preserved c =
    rw c.from.ensures (scan-other c.loop-at.invariant (omega arith) c.in_ok-check_descriptor.ensures c.if-value-at-eq0.false)

pub returns-in-0-clause-refusal : goal.returns-in-0-clause-refusal
returns-in-0-clause-refusal c = found_none c.loop-at.invariant (omega arith) (omega arith)

pub returns-in-1-clause-refusal : goal.returns-in-1-clause-refusal
returns-in-1-clause-refusal c = found-one c.loop-at.invariant (omega arith) (omega arith)

pub returns-in-1-clause-used : goal.returns-in-1-clause-used
returns-in-1-clause-used c = (found-bytes c.loop-at.invariant (omega arith) (omega arith), c.loop-at.invariant.short)

pub returns-in_default-clause-refusal : goal.returns-in_default-clause-refusal
returns-in_default-clause-refusal c = found-two c.loop-at.invariant (omega arith) (omega arith)
