-- `tables::dependency_rows` meets its contract. Assumes nothing.
use Prim.Native.Nat.{ℕ}
use mathlib.Core.Path.{ap₂, ◌∙◌}
use mathlib.Core.List.{List}
use native.Mathlib.Omega.{arith}
use Rattle.tables.specs.Tables.{dependency_table}
use Rattle.tables.proofs.RowLaws.{row-put-low}
use Rattle.tables.proofs.SlotLaws.{used_low}
use Rattle.tables.proofs.TableLaws.{zero-table, table_more}
use Rattle.tables.proofs.DependencyLaws.{slots-row, rows_all}
use Rattle.tables.proofs.dependency_rows.Goals as goal

pub loop-i-init : goal.loop-i-init
loop-i-init c = zero-table _

pub loop-i-preserved : goal.loop-i-preserved
loop-i-preserved c =
    c.put_row.ensures ∙ row-put-low _ _ _ (omega arith)
    ∙ table_more _ _ _ _ c.loop-i.invariant (c.dependency_set.ensures ∙ slots-row _ _ _ (used_low _ _ (omega arith))) (omega arith)

pub returns : goal.returns
returns c =
    let g = c.new-g.ensures in
    rows_all _ _ _ c.args.n _ c.loop-i.invariant (omega (arith, g.n)) ∙ ap₂ (λ (s k : List ℕ). dependency_table s k c.args.n) g.slots g.counts
