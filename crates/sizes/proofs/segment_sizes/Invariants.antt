-- The rule by which `sizes::segment_sizes` reads.
use Rattle.sizes.specs.Sizes.{size_or_none}
use Rattle.sizes.proofs.segment_sizes.Given as goal

abbrev pub ghost-sizes_by : goal.ghost-sizes_by
ghost-sizes_by a = size_or_none
