-- `unit::write_unit` meets its contract. Assumes nothing.
use Rattle.unit.specs.Unit.{write_unit, after_unit}
use Rattle.unit.proofs.write_unit.Goals as goal

pub returns : goal.returns
unfolding write_unit after_unit
returns c = rw c.from.ensures at c.write_hex.ensures
