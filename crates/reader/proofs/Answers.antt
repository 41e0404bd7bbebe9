-- Equal outcomes are equal answers, so that the promise decides its answer. Assumes nothing.
use mathlib.Core.Path.{◌≡◌}
use Rattle.std.specs.Prelude.{Result}
use Rattle.refusal.specs.declared.RefusedAt.{RefusedAt}
use Rattle.refusal.proofs.Numbers.{same-placed}
use Rattle.record.specs.declared.Record.{Record}
use Rattle.record.specs.Record.{no_features}
use Rattle.reader.specs.Outcome.{read_outcome}

pub same_read : (a b : Result Record RefusedAt) → read_outcome a ≡ read_outcome b → a ≡ b
same_read = same-placed (λ (v : Record). v) no_features (λ x y e. e)
