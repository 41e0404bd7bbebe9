-- A feature's cells in a record are those of its node: absent or given, and the number. Assumes nothing.
use mathlib.Core.Path.{◌≡◌, refl, ap, ◌∙◌}
use lib.ListN.{length}
use Rattle.record.specs.declared.Property.{Property}
use Rattle.record.specs.declared.Property.TheVariants.{Dependencies}
use Rattle.record.specs.Cells.{cell, number_in, dependency_count}
use Rattle.record.proofs.CellLaws.{cell-with}
use Rattle.nodes.specs.Nodes.{Node}
use Rattle.nodes.specs.Values.{Value, missing, value, value_of, cells_of}
use Rattle.reading.specs.Features.{count_of, cell_in, feature_of}
use Rattle.reading.specs.Accepted.{dependencies_of}

pub number-count : (v : Value) → number_in (count_of v) ≡ length (cells_of v)
number-count missing = refl
number-count (value bs) = refl

module _ (n : Node) where
  pub cell-read : (p : Property) → cell (feature_of n) p ≡ cell_in n p
  unfolding feature_of
  cell-read = cell-with n.at (cell_in n)

  pub count-read : dependency_count (feature_of n) ≡ length (dependencies_of n)
  unfolding dependency_count cell_in
  count-read = ap number_in (cell-read Dependencies) ∙ number-count (value_of n "dependencies")
