-- Equal outcomes are equal answers, so that each promise decides its answer. Assumes nothing.
use mathlib.Core.Path.{◌≡◌}
use Rattle.std.specs.Prelude.{Result}
use Rattle.refusal.specs.declared.Refusal.{Refusal}
use Rattle.refusal.proofs.Numbers.{same-outcome}
use Rattle.sizes.specs.Sizes.{no_sizes, sizes_outcome}
use Rattle.sizes.specs.declared.SizeTable.{SizeTable}

pub same-sizes : (a b : Result SizeTable Refusal) → sizes_outcome a ≡ sizes_outcome b → a ≡ b
same-sizes = same-outcome (λ t. t) no_sizes (λ a b e. e)
