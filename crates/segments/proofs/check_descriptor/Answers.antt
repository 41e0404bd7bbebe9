-- `segments::check_descriptor` meets its contract: each return is the check that stops there. Assumes nothing.
use native.Mathlib.Omega.{arith}
use mathlib.Core.Path.{◌∙◌}
use Rattle.refusal.proofs.Checks.{stops-with, tests}
use Rattle.segments.specs.Segments.{descriptor_checks}
use Rattle.segments.proofs.SegmentLaws.{exponents-decide}
use Rattle.segments.proofs.check_descriptor.Goals as goal

pub returns-then-i-ge-MOST_DESCRIPTORS : goal.returns-then-i-ge-MOST_DESCRIPTORS
unfolding descriptor_checks
returns-then-i-ge-MOST_DESCRIPTORS c = stops-with 0 _ (omega (arith, tests))

pub returns-then-left-lt12 : goal.returns-then-left-lt12
unfolding descriptor_checks
returns-then-left-lt12 c = stops-with 1 _ (omega (arith, tests))

pub returns-then-count-eq0 : goal.returns-then-count-eq0
unfolding descriptor_checks
returns-then-count-eq0 c = stops-with 2 _ (omega (arith, tests))

pub returns-then-count-gt-MOST_PAGES : goal.returns-then-count-gt-MOST_PAGES
unfolding descriptor_checks
returns-then-count-gt-MOST_PAGES c = stops-with 3 _ (omega (arith, tests))

pub returns-then-left-pages : goal.returns-then-left-pages
unfolding descriptor_checks
returns-then-left-pages c = stops-with 4 _ (omega (arith, tests))

pub returns : goal.returns
returns c =
    let e = c.cell_at-count.ensures in
    c.check_exponents.ensures
    ∙ exponents-decide _ _ _ _ e (omega arith) (omega arith) (omega arith) (omega arith) (omega arith)
