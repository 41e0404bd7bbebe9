-- `reader::tree::Contents::read_bits` meets its contract. Assumes nothing.
use Rattle.reader.proofs.RangeLaws.{number_is}
use Rattle.reader.proofs.FeatureLaws.{is-read}
use Rattle.reader.proofs.tree.Contents.read_bits.Goals as goal

pub returns : goal.returns
returns c = record {
  hfscr = is-read _ c.read_bit.ensures c.into.ensures;
  fscr = is-read _ c.read_bit-2.ensures c.into-2.ensures;
  hwcap = is-read _ (number_is _ c.read_cell.ensures c.at_most.ensures) c.into-3.ensures;
}
