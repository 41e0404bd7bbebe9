-- Equal outcomes are equal answers, so that the promise decides its answer. Assumes nothing.
use Rattle.std.specs.Prelude.{◌≡◌, Result}
use Rattle.refusal.proofs.Numbers.{same-placed}
use Rattle.refusal.specs.declared.RefusedAt.{RefusedAt}
use Rattle.walk.specs.Checked.{no_layout, checked_outcome}
use Rattle.walk.specs.declared.Layout.{Layout}

pub same-checked : (a b : Result Layout RefusedAt) → checked_outcome a ≡ checked_outcome b → a ≡ b
same-checked a b e = same-placed (λ (l : Layout). l) no_layout (λ x y e. e) a b e
