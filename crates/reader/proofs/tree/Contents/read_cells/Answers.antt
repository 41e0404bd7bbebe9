-- `reader::tree::Contents::read_cells` meets its contract. Assumes nothing.
use Rattle.reader.proofs.FeatureLaws.{is-read}
use Rattle.reader.proofs.tree.Contents.read_cells.Goals as goal

pub returns : goal.returns
returns c = record {
  isa = is-read _ c.read_cell.ensures c.into.ensures;
  support = c.read_support-support.ensures;
  bits = c.read_bits.ensures;
  phandle = is-read _ c.read_phandle.ensures c.into-2.ensures;
  dependencies = is-read _ c.read_count.ensures c.into-3.ensures;
}
