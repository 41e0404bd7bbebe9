-- `characters::entry` meets its contract. Assumes nothing.
use Rattle.characters.proofs.Table.{found}
use Rattle.characters.proofs.entry.Goals as goal

pub returns : goal.returns
returns c = rw c.from.ensures (found c.ranges.b.fits c.entries.ensures)
