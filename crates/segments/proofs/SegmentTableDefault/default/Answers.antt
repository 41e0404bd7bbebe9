-- `SegmentTable::default` meets its contract. Assumes nothing.
use mathlib.Core.Path.{refl}
use Rattle.segments.specs.Segments.{table_of, no_descriptor, no_page}
use Rattle.segments.proofs.SegmentTableDefault.default.Goals as goal

pub returns : goal.returns
unfolding table_of no_descriptor no_page
returns c = refl
