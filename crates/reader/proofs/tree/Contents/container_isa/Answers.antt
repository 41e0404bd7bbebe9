-- `reader::tree::Contents::container_isa` meets its contract. Assumes nothing.
use mathlib.Core.Path.{sym, ◌∙◌}
use Rattle.reader.proofs.ContainerLaws.{not-container, container-read}
use Rattle.reader.proofs.tree.Contents.container_isa.Goals as goal

pub returns-then-not-is_container : goal.returns-then-not-is_container
returns-then-not-is_container c = not-container _ (sym c.is_container.ensures ∙ c.if-not-is_container.true)

pub returns : goal.returns
returns c = container-read _ (sym c.is_container.ensures ∙ c.if-not-is_container.false) c.read_cell.ensures
