-- `reader::tree::Contents::is_container` meets its contract. Assumes nothing.
use Rattle.reader.specs.Parts.{is_container}
use Rattle.reader.proofs.tree.Contents.is_container.Goals as goal

pub returns-then-is_container_type : goal.returns-then-is_container_type
unfolding is_container
returns-then-is_container_type c =
    rw (← c.value_part.ensures, ← c.is_container_type.ensures, c.if-is_container_type.true, ← c.value_part-then-is_container_type.ensures)
    c.is_container_compatible.ensures

pub returns-else-is_container_type : goal.returns-else-is_container_type
unfolding is_container
returns-else-is_container_type c = rw (← c.value_part.ensures, ← c.is_container_type.ensures, c.if-is_container_type.false)
