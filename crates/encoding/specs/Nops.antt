-- Items and tokens without NOPs, and tokens without their offsets.
use Rattle.std.specs.Prelude.{List, [], ◌∷◌}
use Rattle.tokens.specs.Tokens.{Token, begin_node, end_node, property, nop, end, fault}
unfoldable pub use Rattle.walk.specs.Grammar.{without_nop_tokens}
use Rattle.encoding.specs.Items.{Item, nop_item, begin_item, end_node_item, property_item, end_item}

-- items without the NOP items among them
unfoldable pub without_nops : {N : Type 0} → List (Item N) → List (Item N)
without_nops [] = []
without_nops (nop_item ∷ items) = without_nops items
without_nops (begin_item name padding ∷ items) = begin_item name padding ∷ without_nops items
without_nops (end_node_item ∷ items) = end_node_item ∷ without_nops items
without_nops (property_item name value padding ∷ items) = property_item name value padding ∷ without_nops items
without_nops (end_item ∷ items) = end_item ∷ without_nops items

-- a token as if it stood at 0: two tokens are the same, offsets apart, where these are equal
unfoldable pub without_offset : Token → Token
without_offset (begin_node at name) = begin_node 0 name
without_offset (end_node at) = end_node 0
without_offset (property at name value) = property 0 name value
without_offset (nop at) = nop 0
without_offset (end at) = end 0
without_offset (fault at) = fault 0
