-- `reader::tree::Tree::read_feature` meets its contract. Assumes nothing.
use mathlib.Core.Path.{refl}
use Rattle.reader.proofs.FeatureLaws.{feature-is}
use Rattle.reader.proofs.tree.Tree.read_feature.Goals as goal

pub returns : goal.returns
returns c = feature-is c.try_feature_of.result c.read_cells-cells.ensures c.try_feature_of.ensures refl
