-- `reader::tree::Contents::value` meets its contract. Assumes nothing.
use mathlib.Core.Path.{refl}
use Rattle.nodes.proofs.PlaceLaws.{shown}
use Rattle.reader.proofs.tree.Contents.value.Goals as goal

pub returns : goal.returns
returns c = shown _ _ _ _ c.value_of.ensures refl c.args.self.now.tree.inside
