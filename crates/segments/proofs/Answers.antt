-- Equal outcomes are equal answers, so that each promise decides its answer. Assumes nothing.
use mathlib.Core.Path.{◌≡◌}
use mathlib.Core.List.{[]}
use Rattle.std.specs.Prelude.{Result}
use Rattle.refusal.specs.declared.Refusal.{Refusal}
use Rattle.refusal.proofs.Numbers.{same-outcome}
use Rattle.segments.specs.Segments.{table_of, segments_outcome}
use Rattle.segments.specs.declared.SegmentTable.{SegmentTable}

pub same-segments : (a b : Result SegmentTable Refusal) → segments_outcome a ≡ segments_outcome b → a ≡ b
same-segments = same-outcome (λ t. t) (table_of []) (λ a b e. e)
