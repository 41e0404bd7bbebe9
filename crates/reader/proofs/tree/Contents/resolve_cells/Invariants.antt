-- The invariant of `reader::tree::Contents::resolve_cells`.
use Rattle.reader.proofs.CellSlotLaws.{CellsResolved}
use Rattle.reader.proofs.tree.Contents.resolve_cells.Given as goal

abbrev pub invariant-loop-j : goal.invariant-loop-j
invariant-loop-j l = CellsResolved l.self.tree.bytes.now l.from l.n l.phandles.noted.now l.phandles.count l.at l.initial.slots l.slots l.j
