-- `reader::tree::Contents::read_cell` meets its contract. Assumes nothing.
use Rattle.reader.proofs.CellReadLaws.{cell-given, cell-long, cell-missing, cell-absent}
use Rattle.reader.proofs.tree.Contents.read_cell.Goals as goal

pub returns-then-needed : goal.returns-then-needed
returns-then-needed c = cell-missing c.in_default.ensures c.if-needed.true

pub returns-else-needed : goal.returns-else-needed
returns-else-needed c = cell-absent c.in_default.ensures c.if-needed.false

pub returns-then-value-ne4 : goal.returns-then-value-ne4
returns-then-value-ne4 c = cell-long c.in-Some.ensures _ c.if-value-ne4.true

pub returns : goal.returns
returns c = cell-given c.in-Some.ensures _ c.if-value-ne4.false c.cell_at.ensures
