-- `tables::put_row` meets its contract. The loop: the words passed are replaced. Assumes nothing.
use mathlib.Core.Path.{sym, ◌∙◌}
use native.Mathlib.Omega.{arith}
use Rattle.tables.proofs.RowLaws.{put_all, row-put-low, row-put-past}
use borrow.Author.Rules.{rules}
use Rattle.tables.proofs.put_row.Goals as goal

pub returns-then-i-ge-MOST_FEATURES : goal.returns-then-i-ge-MOST_FEATURES
returns-then-i-ge-MOST_FEATURES c = row-put-past _ _ _ (omega arith)

pub returns : goal.returns
returns c = put_all _ _ _ _ _ (search rules) c.loop-w.invariant.0 (omega arith) ∙ sym (row-put-low _ _ _ c.loop-w.invariant.1)
