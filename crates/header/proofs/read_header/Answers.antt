-- `header::read_header` meets its contract: each return is the check that stops there. Assumes nothing.
use mathlib.Core.Path.{sym, ◌∙◌}
use native.Mathlib.Omega.{arith}
use Rattle.refusal.specs.Refusal.{fault, refuse_at}
use Rattle.refusal.proofs.Checks.{stops, others-decide, tests}
use Rattle.header.specs.Header.{no_blocks, header_checks, header}
use Rattle.header.proofs.read_header.Goals as goal
use Rattle.header.proofs.read_header.Goals.{then-total-lt-HEADER_BYTES-via-then-total-lt-HEADER_BYTES, then-total-lt-HEADER_BYTES-via-else-total-lt-HEADER_BYTES+then-tree-total}

pub returns-then-tree-lt-HEADER_BYTES : goal.returns-then-tree-lt-HEADER_BYTES
unfolding header header_checks
returns-then-tree-lt-HEADER_BYTES c = rw c.at.ensures (sym (stops (refuse_at no_blocks) (fault 0 0) 0 _ _ (omega (arith, tests))))

pub returns-then-cell-ne-MAGIC : goal.returns-then-cell-ne-MAGIC
unfolding header header_checks
returns-then-cell-ne-MAGIC c = rw c.at-then-cell-ne-MAGIC.ensures (sym (stops (refuse_at no_blocks) (fault 0 0) 1 _ _ (omega (arith, tests))))

pub returns-then-total-gt-LARGEST_TREE : goal.returns-then-total-gt-LARGEST_TREE
unfolding header header_checks
returns-then-total-gt-LARGEST_TREE c = rw c.at-then-total-gt-LARGEST_TREE.ensures (sym (stops (refuse_at no_blocks) (fault 0 0) 2 _ _ (omega (arith, tests))))

pub returns-then-total-lt-HEADER_BYTES : goal.returns-then-total-lt-HEADER_BYTES
unfolding header header_checks
returns-then-total-lt-HEADER_BYTES c =
    rw c.at-then-total-lt-HEADER_BYTES.ensures
    (elim c.then-total-lt-HEADER_BYTES.branch [
      | then-total-lt-HEADER_BYTES-via-then-total-lt-HEADER_BYTES w ↦ sym (stops (refuse_at no_blocks) (fault 0 0) 3 _ _ (omega (arith, tests)))
      | then-total-lt-HEADER_BYTES-via-else-total-lt-HEADER_BYTES+then-tree-total w ↦ sym (stops (refuse_at no_blocks) (fault 0 0) 4 _ _ (omega (arith, tests)))
    ])

pub returns-then-cell-lt-VERSION : goal.returns-then-cell-lt-VERSION
unfolding header header_checks
returns-then-cell-lt-VERSION c = rw c.at-then-cell-lt-VERSION.ensures (sym (stops (refuse_at no_blocks) (fault 0 0) 5 _ _ (omega (arith, tests))))

pub returns-then-cell-gt-VERSION : goal.returns-then-cell-gt-VERSION
unfolding header header_checks
returns-then-cell-gt-VERSION c = rw c.at-then-cell-gt-VERSION.ensures (sym (stops (refuse_at no_blocks) (fault 0 0) 6 _ _ (omega (arith, tests))))

pub returns : goal.returns
unfolding header header_checks
returns c = c.read_blocks.ensures ∙ sym (others-decide (refuse_at no_blocks) 7 (header_checks _) _ (omega (arith, tests)))
