-- The invariant of `segments::segment_page_sizes`.
use Prim.Native.Nat.{◌-◌}
use lib.ListN.{length}
use Rattle.segments.proofs.SegmentLaws.{DescriptorsRead}
use Rattle.segments.proofs.segment_page_sizes.Given as goal

abbrev pub invariant-loop-at : goal.invariant-loop-at
invariant-loop-at l = DescriptorsRead l.value l.descriptors l.at l.i

abbrev pub decreases-loop-at : goal.decreases-loop-at
decreases-loop-at l = length l.value - l.at
