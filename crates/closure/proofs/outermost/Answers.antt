-- `closure::outermost` meets its contract. Assumes nothing.
use Rattle.closure.proofs.PickLaws.{picks-lowest}
use Rattle.closure.proofs.outermost.Goals as goal

pub returns-then-lowest : goal.returns-then-lowest
returns-then-lowest c = picks-lowest _ c.empty.ensures c.lowest_outside.ensures
