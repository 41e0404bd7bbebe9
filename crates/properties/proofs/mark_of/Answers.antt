-- `properties::mark_of` meets its contract. Assumes nothing.
use Rattle.properties.proofs.MarkLaws.{mark-empty, mark-some}
use Rattle.properties.proofs.mark_of.Goals as goal

pub returns-then-n-eq0 : goal.returns-then-n-eq0
returns-then-n-eq0 c = mark-empty _ c.if-n-eq0.true

pub returns : goal.returns
returns c = mark-some _ c.from.ensures c.from-2.ensures c.from-3.ensures c.from-4.ensures
