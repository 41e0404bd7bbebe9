-- The invariant of `segments::check_exponents`.
use Rattle.segments.proofs.SegmentLaws.{PagesPassed}
use Rattle.segments.proofs.check_exponents.Given as goal

abbrev pub invariant-loop-j : goal.invariant-loop-j
invariant-loop-j l = PagesPassed l.value l.at l.count l.j
