-- `segments::check_exponents` meets its contract. The loop's invariant: the pages from `j` on decide. Assumes nothing.
use native.Mathlib.Omega.{arith}
use Rattle.segments.proofs.SegmentLaws.{base_above, base-passed, exponent-above, exponent-below, page-passed, pages-passed}
use Rattle.segments.proofs.check_exponents.Goals as goal
use Rattle.segments.proofs.check_exponents.Goals.{then-exponent-gt-LARGEST_EXPONENT-via-then-exponent-gt-LARGEST_EXPONENT, then-exponent-gt-LARGEST_EXPONENT-via-else-exponent-gt-LARGEST_EXPONENT+then-exponent-base}

pub returns-then-base-gt-LARGEST_EXPONENT : goal.returns-then-base-gt-LARGEST_EXPONENT
returns-then-base-gt-LARGEST_EXPONENT c = base_above _ _ _ (omega arith)

pub loop-j-init : goal.loop-j-init
loop-j-init c = base-passed _ _ _ (omega arith)

pub returns-then-exponent-gt-LARGEST_EXPONENT : goal.returns-then-exponent-gt-LARGEST_EXPONENT
returns-then-exponent-gt-LARGEST_EXPONENT c =
    elim c.then-exponent-gt-LARGEST_EXPONENT.branch [
      | then-exponent-gt-LARGEST_EXPONENT-via-then-exponent-gt-LARGEST_EXPONENT w ↦ exponent-above c.loop-j.invariant (omega arith) (omega arith)
      | then-exponent-gt-LARGEST_EXPONENT-via-else-exponent-gt-LARGEST_EXPONENT+then-exponent-base w ↦
          exponent-below c.loop-j.invariant (omega arith) (omega arith) (omega arith)
    ]

pub loop-j-preserved : goal.loop-j-preserved
loop-j-preserved c = page-passed c.loop-j.invariant (omega arith) (omega arith) (omega arith)

pub returns : goal.returns
returns c = pages-passed c.loop-j.invariant c.loop-j-test.false
