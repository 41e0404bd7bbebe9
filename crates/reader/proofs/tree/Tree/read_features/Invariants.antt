-- The invariant of `reader::tree::Tree::read_features`.
use mathlib.Core.List.{List}
use Rattle.nodes.specs.Nodes.{Node}
use Rattle.reader.specs.Parts.{AtPlaces}
use Rattle.reader.proofs.RecordLaws.{ReadBelow}
use Rattle.reader.proofs.tree.Tree.read_features.Given as goal

abbrev pub invariant-loop-i : goal.invariant-loop-i
invariant-loop-i l = (nodes : List Node) → AtPlaces l.self.bytes.now l.self.blocks l.fn.fs nodes → ReadBelow nodes l.i l.features l.phandles
