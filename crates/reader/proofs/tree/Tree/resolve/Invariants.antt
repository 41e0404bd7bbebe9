-- The invariant of `reader::tree::Tree::resolve`.
use Rattle.reader.proofs.ResolveLaws.{AllResolved}
use Rattle.reader.proofs.tree.Tree.resolve.Given as goal

abbrev pub invariant-loop-i : goal.invariant-loop-i
invariant-loop-i l = AllResolved l.self.bytes.now l.self.blocks l.fn.fs l.phandles l.slots l.i
