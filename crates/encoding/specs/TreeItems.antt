-- Items as the blocks of a tree hold them.
use Rattle.std.specs.Prelude.{ℕ, ◌+◌, ◌-◌, ◌≤◌, ◌≡◌, List, length, take, drop}
use Rattle.cells.specs.Bytes.{Each, Stands}
use Rattle.header.specs.declared.Blocks.{Blocks}
use Rattle.walk.specs.Walk.{name_in, tree_tokens}
use Rattle.stringlist.specs.StringList.{strings_bytes}
use Rattle.encoding.specs.Items.{Item, encode, whole_block, item_tokens, Writable, NotEnd, InBytes}
use Rattle.encoding.specs.StringsBlock.{property_names, strings_of, with_offsets, NameEnds}

-- a tree is written from items: their bytes begin the structure block, and their strings the strings block
pub record TreeHolds (tree : List ℕ) (b : Blocks) (items : List (Item (List ℕ))) : Type 0 where
  pub structure : Stands tree b.start (encode (with_offsets items))
  pub structure_fits : b.start + length (encode (with_offsets items)) ≤ b.end
  pub strings : Stands tree b.strings (strings_bytes (strings_of items))
  pub strings_fit : b.strings + length (strings_bytes (strings_of items)) ≤ b.limit

-- the structure block of a tree is the encoding of items and the end item, each name ends, and the tokens are those items
pub record StructureIs (tree : List ℕ) (b : Blocks) (items : List (Item ℕ)) : Type 0 where
  pub writable : Each Writable items
  pub in_bytes : Each InBytes items
  pub not_end : Each NotEnd items
  pub named : Each (NameEnds (name_in tree b)) (property_names items)
  pub bytes : encode (whole_block items) ≡ take (b.end - b.start) (drop b.start tree)
  pub tokens : tree_tokens tree b b.start ≡ item_tokens (name_in tree b) b.start (whole_block items)
