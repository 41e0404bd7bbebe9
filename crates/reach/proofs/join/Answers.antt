-- `reach::join` meets its contract. The loop: the rows passed are joined. Assumes nothing.
use mathlib.Core.Path.{◌∙◌}
use native.Mathlib.Omega.{arith}
use Rattle.tables.proofs.RowLaws.{row-put-low}
use Rattle.reach.proofs.JoinLaws.{joins-none, joins-more, joins-all}
use Rattle.reach.proofs.join.Goals as goal

pub loop-i-init : goal.loop-i-init
loop-i-init c = joins-none _ _ (omega arith) (omega arith) _

pub loop-i-preserved : goal.loop-i-preserved
loop-i-preserved c =
    joins-more _ _ (omega arith) (omega arith) _ _ _ _ _ _ _ (omega arith) c.loop-i.invariant c.row-y.ensures
    c.row.ensures c.joined-x.ensures (c.put_row.ensures ∙ row-put-low _ _ _ (omega arith))

pub returns : goal.returns
returns c = joins-all _ _ (omega arith) (omega arith) _ _ _ (omega arith) c.loop-i.invariant
