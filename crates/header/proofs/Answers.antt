-- Equal outcomes are equal answers, so that the promise decides its answer. Assumes nothing.
use Rattle.std.specs.Prelude.{◌≡◌, Result}
use Rattle.refusal.proofs.Numbers.{same-placed}
use Rattle.refusal.specs.declared.RefusedAt.{RefusedAt}
use Rattle.header.specs.Header.{no_blocks, header_outcome}
use Rattle.header.specs.declared.Blocks.{Blocks}

pub same-header : (a b : Result Blocks RefusedAt) → header_outcome a ≡ header_outcome b → a ≡ b
same-header a b e = same-placed (λ (b : Blocks). b) no_blocks (λ x y e. e) a b e
