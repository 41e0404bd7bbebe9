-- `reader::tree::Contents::read_support` meets its contract. Assumes nothing.
use Rattle.reader.proofs.FeatureLaws.{is-read}
use Rattle.reader.proofs.tree.Contents.read_support.Goals as goal

pub returns : goal.returns
returns c = record {
  usable = is-read _ c.read_cell.ensures c.into.ensures;
  hv = is-read _ c.read_cell-2.ensures c.into-2.ensures;
  os = is-read _ c.read_cell-3.ensures c.into-3.ensures;
}
