-- Equal outcomes are equal answers, so that the promise decides the answer. Assumes nothing.
use mathlib.Core.Path.{◌≡◌, ap}
use Rattle.std.specs.Prelude.{Result}
use Rattle.refusal.proofs.Numbers.{same-outcome}
use Rattle.refusal.specs.declared.Refusal.{Refusal}
use Rattle.enabled.specs.Answers.{Members, members_in, nobody, enabled_outcome}
use Rattle.enabled.specs.declared.Enabled.{Enabled}

pub same-enabled : (a b : Result Enabled Refusal) → enabled_outcome a ≡ enabled_outcome b → a ≡ b
same-enabled = same-outcome members_in nobody (λ a b e. ap (λ (v : Members). record { set = record { words = v.set }; count = v.count }) e)
