-- `reader::tree::Contents::read_count` meets its contract. Assumes nothing.
use Rattle.reader.proofs.PropertyLaws.{count-missing, count-ragged, count-many, count-few}
use Rattle.reader.proofs.tree.Contents.read_count.Goals as goal

pub returns-in_default : goal.returns-in_default
returns-in_default c = count-missing c.in_default.ensures

pub returns-then-value-ne0 : goal.returns-then-value-ne0
returns-then-value-ne0 c = count-ragged c.in-Some.ensures c.if-value-ne0.true

pub returns-then-n-gt-MOST_DEPENDENCIES : goal.returns-then-n-gt-MOST_DEPENDENCIES
returns-then-n-gt-MOST_DEPENDENCIES c = count-many c.in-Some.ensures c.if-value-ne0.false c.if-n-gt-MOST_DEPENDENCIES.true

pub returns : goal.returns
returns c = count-few c.in-Some.ensures c.if-value-ne0.false c.if-n-gt-MOST_DEPENDENCIES.false
