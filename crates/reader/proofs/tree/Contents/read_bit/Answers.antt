-- `reader::tree::Contents::read_bit` meets its contract. Assumes nothing.
use Rattle.reader.proofs.RangeLaws.{bit_is}
use Rattle.reader.proofs.tree.Contents.read_bit.Goals as goal

pub returns : goal.returns
returns c = bit_is _ c.low_bit-needed.ensures c.read_cell.ensures c.at_most.ensures
