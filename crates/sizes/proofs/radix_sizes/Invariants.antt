-- The rule by which `sizes::radix_sizes` reads.
use Rattle.sizes.specs.Sizes.{radix_size}
use Rattle.sizes.proofs.radix_sizes.Given as goal

abbrev pub ghost-sizes_by : goal.ghost-sizes_by
ghost-sizes_by a = radix_size
