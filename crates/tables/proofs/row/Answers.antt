-- `tables::row` meets its contract. The loop: the words passed are those of the row. Assumes nothing.
use mathlib.Core.Path.{sym, ◌∙◌}
use native.Mathlib.Omega.{arith}
use Rattle.tables.proofs.RowLaws.{read_all, row-past, row_low}
use Rattle.tables.proofs.row.Goals as goal

pub returns-after-loop-w : goal.returns-after-loop-w
returns-after-loop-w c = read_all _ _ _ _ c.loop-w.invariant.0 (omega arith) ∙ sym (row_low _ _ c.loop-w.invariant.1)

pub returns-else-i-lt-MOST_FEATURES : goal.returns-else-i-lt-MOST_FEATURES
returns-else-i-lt-MOST_FEATURES c = c.empty-s.ensures ∙ row-past _ _ (omega arith)
