-- `characters::hex_value` meets its contract. Assumes nothing.
use mathlib.Core.Path.{◌∙◌}
use Rattle.characters.proofs.Table.{entry-value}
use Rattle.characters.proofs.hex_value.Goals as goal

pub returns : goal.returns
returns c = c.then_some.ensures ∙ entry-value _ c.entry-value.ensures
