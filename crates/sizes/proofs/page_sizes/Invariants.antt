-- The rule by which `sizes::page_sizes` reads.
use Rattle.sizes.specs.Sizes.{size_only}
use Rattle.sizes.proofs.page_sizes.Given as goal

abbrev pub ghost-sizes_by : goal.ghost-sizes_by
ghost-sizes_by a = size_only
