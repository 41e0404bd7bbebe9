-- `sizes::sizes_by` meets its contract. The loop's invariant is `Read`: the cells passed are in the row, and those left decide the
-- refusal. Assumes nothing.
use mathlib.Core.Path.{◌≡◌, sym}
use native.Mathlib.Omega.{arith}
use borrow.Author.Tests.{eqb-true, eqb-false}
use Rattle.std.specs.Prelude.{Some}
use Rattle.refusal.proofs.Checks.{stops, tests}
use Rattle.refusal.specs.Refusal.{refuse}
use Rattle.cells.proofs.CellRows.{count-cells}
use Rattle.sizes.specs.Sizes.{no_sizes, sizes, plain_checks, size_checks}
use Rattle.sizes.proofs.Ascending.{read_none, read-gap, read-large, read-falls, read-size, read_all, read-gaps}
use Rattle.sizes.proofs.sizes_by.Goals as goal
use Rattle.sizes.proofs.sizes_by.Goals.{then-is_empty-via-then-is_empty, then-is_empty-via-else-is_empty+then-value-ne0, in-Some+else-exponent-gt-LARGEST_EXPONENT+else-exponent-least, in_default}

pub returns-then-is_empty : goal.returns-then-is_empty
unfolding sizes size_checks plain_checks
returns-then-is_empty g c =
    elim c.then-is_empty.branch [
      | then-is_empty-via-then-is_empty w ↦ sym (stops (refuse no_sizes) 0 0 _ _ (omega (arith, tests, eqb-true _ _ (sym w.if-is_empty.ensures))))
      | then-is_empty-via-else-is_empty+then-value-ne0 w ↦
          sym (stops (refuse no_sizes) 0 1 _ _ (omega (arith, tests, eqb-false _ _ (sym w.if-is_empty.ensures))))
    ]

pub returns-then-count-gt-MOST_SIZES : goal.returns-then-count-gt-MOST_SIZES
unfolding sizes size_checks plain_checks
returns-then-count-gt-MOST_SIZES g c = sym (stops (refuse no_sizes) 0 2 _ _ (omega (arith, tests, count-cells c.args.value.now)))

pub loop-i-init : goal.loop-i-init
loop-i-init g c = read_none _ _ (omega (arith, eqb-false _ _ (sym c.if-is_empty.ensures))) (omega arith) (omega arith)

pub returns-then-exponent-gt-LARGEST_EXPONENT : goal.returns-then-exponent-gt-LARGEST_EXPONENT
returns-then-exponent-gt-LARGEST_EXPONENT g c =
    let size : g.rule c.cell_at-cell.result ≡ Some c.in-Some.exponent = sym (c.requires.1.1 _ _ (omega arith) c.in-Some.ensures) in
    read-large c.loop-i.invariant (omega arith) c.cell_at-cell.ensures size (omega arith)

pub returns-then-exponent-least : goal.returns-then-exponent-least
returns-then-exponent-least g c =
    let size : g.rule c.cell_at-cell.result ≡ Some c.in-Some.exponent = sym (c.requires.1.1 _ _ (omega arith) c.in-Some.ensures) in
    read-falls c.loop-i.invariant (omega arith) c.cell_at-cell.ensures size (omega arith) (omega arith)

pub loop-i-preserved : goal.loop-i-preserved
loop-i-preserved g c =
    let inv = c.loop-i.invariant in
    let cell = c.cell_at-cell.ensures in
    elim c.match-size.branch [
      | in-Some+else-exponent-gt-LARGEST_EXPONENT+else-exponent-least w ↦
          rw w.least-is (read-size inv (omega arith) cell (sym (c.requires.1.1 _ _ (omega arith) w.in-Some.ensures)) (omega arith) (omega arith))
      | in_default w ↦ rw w.least-is (read-gap inv (omega arith) cell (sym (c.requires.1.1 _ _ (omega arith) w.in_default.ensures)))
    ]

pub returns-then-least-eq0 : goal.returns-then-least-eq0
returns-then-least-eq0 g c = read-gaps c.loop-i.invariant (omega arith) c.if-least-eq0.true

pub returns : goal.returns
returns g c = read_all c.loop-i.invariant (omega arith) (omega arith)
