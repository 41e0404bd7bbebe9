-- `reader::tree::Contents::resolve_feature` meets its contract. Assumes nothing.
use Rattle.reader.proofs.PropertyLaws.{count}
use Rattle.reader.proofs.CellSlotLaws.{no-dependencies, dependencies-lie}
use native.Mathlib.Omega.{arith}
use Rattle.reader.proofs.tree.Contents.resolve_feature.Goals as goal

pub resolve_cells-requires : goal.resolve_cells-requires
resolve_cells-requires c =
    (omega (arith, c.in-Some.ensures.within), omega (arith, count c.in-Some.ensures))

pub returns-in-None : goal.returns-in-None
returns-in-None c = no-dependencies _ _ _ _ c.in-None.ensures

pub returns-in-Some : goal.returns-in-Some
returns-in-Some c = dependencies-lie _ _ _ _ _ _ c.in-Some.ensures c.resolve_cells.ensures
