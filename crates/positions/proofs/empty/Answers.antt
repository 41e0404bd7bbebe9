-- `positions::empty` meets its contract. Assumes nothing.
use Rattle.positions.proofs.SetCodeLaws.{zero-words}
use Rattle.positions.proofs.empty.Goals as goal

pub returns : goal.returns
returns c = zero-words
