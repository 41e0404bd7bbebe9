-- The invariant of `segments::descriptor_at`.
use Rattle.segments.proofs.SegmentLaws.{PagesRead}
use Rattle.segments.proofs.descriptor_at.Given as goal

abbrev pub invariant-loop-j : goal.invariant-loop-j
invariant-loop-j l = PagesRead l.value l.at l.descriptor l.j
