-- `characters::entries` meets its contract: antt computes the 256 entries of the rule, and they are the table. Assumes nothing.
use mathlib.Core.Path.{refl}
use Rattle.characters.specs.Characters.{entry_of, is_node_character, is_property_character, hex_value, run, character_table}
use Rattle.characters.proofs.entries.Goals as goal

pub returns : goal.returns
unfolding run is_node_character is_property_character hex_value entry_of character_table
returns c = refl
