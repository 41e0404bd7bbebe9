-- Equal outcomes are equal answers, so that the promise decides its answer. Assumes nothing.
use mathlib.Core.Path.{◌≡◌}
use Rattle.std.specs.Prelude.{Result}
use Rattle.refusal.specs.declared.Refusal.{Refusal}
use Rattle.refusal.proofs.Numbers.{same-outcome}
use Rattle.radix.specs.Radix.{no_encodings, radix_outcome}
use Rattle.radix.specs.declared.RadixTable.{RadixTable}

pub same-radix : (a b : Result RadixTable Refusal) → radix_outcome a ≡ radix_outcome b → a ≡ b
same-radix = same-outcome (λ t. t) no_encodings (λ a b e. e)
