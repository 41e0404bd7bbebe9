-- Items that differ in their padding alone (document 01, "The walk": "Values and names are padded to four bytes; padding isn't examined").
use Rattle.std.specs.Prelude.{[]}
use Rattle.encoding.specs.Items.{Item, nop_item, begin_item, end_node_item, property_item, end_item}

-- an item without its padding
unfoldable pub without_padding : {N : Type 0} → Item N → Item N
without_padding nop_item = nop_item
without_padding (begin_item name padding) = begin_item name []
without_padding end_node_item = end_node_item
without_padding (property_item name value padding) = property_item name value []
without_padding end_item = end_item
