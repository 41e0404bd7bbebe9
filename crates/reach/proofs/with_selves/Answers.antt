-- `reach::with_selves` meets its contract. The loop: the rows passed have their own positions. Assumes nothing.
use mathlib.Core.Path.{◌∙◌}
use native.Mathlib.Omega.{arith}
use Rattle.tables.proofs.RowLaws.{row_low, row-put-low}
use Rattle.tables.proofs.TableLaws.{zero-table, table_more, table-all}
use Rattle.reach.proofs.JoinLaws.{self_row}
use Rattle.reach.proofs.with_selves.Goals as goal

pub loop-i-init : goal.loop-i-init
loop-i-init c = zero-table _

pub loop-i-preserved : goal.loop-i-preserved
loop-i-preserved c =
    let own = c.insert.ensures ∙ self_row _ _ (c.row.ensures ∙ row_low _ _ (omega arith)) in
    c.put_row.ensures ∙ row-put-low _ _ _ (omega arith) ∙ table_more _ _ _ _ c.loop-i.invariant own (omega arith)

pub returns : goal.returns
returns c = table-all _ _ _ _ c.loop-i.invariant (omega arith)
