-- `reader::tree::Contents::value_part` meets its contract. Assumes nothing.
use Rattle.reader.proofs.ContainerLaws.{part-missing, part-given}
use Rattle.reader.proofs.tree.Contents.value_part.Goals as goal

pub returns-in-None : goal.returns-in-None
returns-in-None c = part-missing c.in-None.ensures

pub returns-in-Some : goal.returns-in-Some
returns-in-Some c = part-given c.in-Some.ensures
