-- `tables::Table::inside` meets its contract. Assumes nothing.
use mathlib.Core.Path.{◌∙◌}
use native.Mathlib.Omega.{arith}
use Rattle.tables.proofs.RowLaws.{row_low}
use Rattle.tables.proofs.InsideLaws.{inside-none, inside-more, inside-all}
use Rattle.tables.proofs.Table.inside.Goals as goal

pub loop-i-init : goal.loop-i-init
loop-i-init c = c.empty-s.ensures ∙ inside-none _ _

pub loop-i-preserved : goal.loop-i-preserved
loop-i-preserved c =
    c.added-s.ensures ∙ inside-more _ _ _ _ _ (omega arith) c.loop-i.invariant (c.row.ensures ∙ row_low _ _ (omega arith))

pub returns : goal.returns
returns c = inside-all _ _ _ _ _ c.loop-i.invariant (omega arith)
