-- `header::read_blocks` meets its contract: each return is the check that stops there. Assumes nothing.
use mathlib.Core.Path.{sym}
use native.Mathlib.Omega.{arith}
use Rattle.refusal.specs.Refusal.{fault, refuse_at}
use Rattle.refusal.proofs.Checks.{stops, passes, tests}
use Rattle.header.specs.Header.{no_blocks, blocks_of, block_checks}
use Rattle.header.proofs.read_blocks.Goals as goal
use Rattle.header.proofs.read_blocks.Goals.{then-start-lt-HEADER_BYTES-via-then-start-lt-HEADER_BYTES as early, then-start-lt-HEADER_BYTES-via-else-start-lt-HEADER_BYTES+then-total-end as late, then-start-lt-HEADER_BYTES-via-else-start-lt-HEADER_BYTES+else-total-end+then-start-ne0 as odd-start, then-start-lt-HEADER_BYTES-via-else-start-lt-HEADER_BYTES+else-total-end+else-start-ne0+then-end-start-ne0 as odd-size, then-strings-lt-HEADER_BYTES-via-then-strings-lt-HEADER_BYTES as early-strings, then-strings-lt-HEADER_BYTES-via-else-strings-lt-HEADER_BYTES+then-total-limit as late-strings}

pub returns-then-start-lt-HEADER_BYTES : goal.returns-then-start-lt-HEADER_BYTES
unfolding block_checks
returns-then-start-lt-HEADER_BYTES c =
    rw c.at.ensures
    (elim c.then-start-lt-HEADER_BYTES.branch [
      | early w ↦ sym (stops (refuse_at no_blocks) (fault 0 0) 0 _ _ (omega (arith, tests)))
      | late w ↦ sym (stops (refuse_at no_blocks) (fault 0 0) 1 _ _ (omega (arith, tests)))
      | odd-start w ↦ sym (stops (refuse_at no_blocks) (fault 0 0) 2 _ _ (omega (arith, tests)))
      | odd-size w ↦ sym (stops (refuse_at no_blocks) (fault 0 0) 3 _ _ (omega (arith, tests)))
    ])

pub returns-then-strings-lt-HEADER_BYTES : goal.returns-then-strings-lt-HEADER_BYTES
unfolding block_checks
returns-then-strings-lt-HEADER_BYTES c =
    rw c.at-then-strings-lt-HEADER_BYTES.ensures
    (elim c.then-strings-lt-HEADER_BYTES.branch [
      | early-strings w ↦ sym (stops (refuse_at no_blocks) (fault 0 0) 4 _ _ (omega (arith, tests)))
      | late-strings w ↦ sym (stops (refuse_at no_blocks) (fault 0 0) 5 _ _ (omega (arith, tests)))
    ])

pub returns : goal.returns
unfolding block_checks blocks_of
returns c =
    rw (
      c.cell-start.ensures.0,
      c.cell.ensures.0,
      c.cell-strings.ensures.0,
      c.cell-2.ensures.0,
    )
    (sym (passes (refuse_at no_blocks) _ _ (omega (arith, tests))))
