-- What a structure block is written from: its items, their bytes, and the tokens that they are read as (document 01, "The walk").
use Rattle.std.specs.Prelude.{ℕ, ◌+◌, ◌-◌, ◌≡◌, List, [], ◌∷◌, ◌++◌, length, replicate}
use Rattle.cells.specs.Bytes.{IsByte, IsCell, cell_bytes, Each}
use Rattle.stringlist.specs.StringList.{NotZero}
use Rattle.strings.specs.Strings.{Text, ended}
use Rattle.tokens.specs.Steps.{padded}
use Rattle.tokens.specs.Tokens.{Token, begin_node, end_node, property, nop, end}

-- an item of a structure block: a token with its bytes and no offset yet. N is how a property's name is given: in a block by its offset
-- in the strings block (ℕ); to a writer by its characters (List ℕ).
pub data Item (N : Type 0) : Type 0 where
  nop_item : Item N
  begin_item : (name padding : List ℕ) → Item N
  end_node_item : Item N
  property_item : (name : N) (value padding : List ℕ) → Item N
  end_item : Item N

-- the bytes of an item: "1 begin node, 2 end node, 3 property, 4 NOP (skipped), 9 end"
unfoldable pub item_bytes : Item ℕ → List ℕ
item_bytes nop_item = cell_bytes 4
item_bytes (begin_item name padding) = cell_bytes 1 ++ (name ++ 0 ∷ padding)
item_bytes end_node_item = cell_bytes 2
item_bytes (property_item offset value padding) = cell_bytes 3 ++ (cell_bytes (length value) ++ (cell_bytes offset ++ (value ++ padding)))
item_bytes end_item = cell_bytes 9

-- the bytes of items, one after the other
unfoldable pub encode : List (Item ℕ) → List ℕ
encode [] = []
encode (item ∷ items) = item_bytes item ++ encode items

-- the items of a whole structure block: "the end token is the last cell of the block"
abbrev pub whole_block : {N : Type 0} → List (Item N) → List (Item N)
whole_block items = items ++ end_item ∷ []

module _ {N : Type 0} where
  -- how many bytes an item takes: "Values and names are padded to four bytes"
  unfoldable pub item_size : Item N → ℕ
  item_size nop_item = 4
  item_size (begin_item name padding) = 4 + padded (length name + 1)
  item_size end_node_item = 4
  item_size (property_item name value padding) = 12 + padded (length value)
  item_size end_item = 4

  -- how many bytes items take
  unfoldable pub items_size : List (Item N) → ℕ
  items_size [] = 0
  items_size (item ∷ items) = item_size item + items_size items

  -- the token that an item at an offset is read as; `names` reads a property's name
  unfoldable pub item_token : (N → Text) → ℕ → Item N → Token
  item_token names at nop_item = nop at
  item_token names at (begin_item name padding) = begin_node at (ended name)
  item_token names at end_node_item = end_node at
  item_token names at (property_item name value padding) = property at (names name) value
  item_token names at end_item = end at

  -- the tokens that items are read as, from an offset on
  unfoldable pub item_tokens : (N → Text) → ℕ → List (Item N) → List Token
  item_tokens names at [] = []
  item_tokens names at (item ∷ items) = item_token names at item ∷ item_tokens names (at + item_size item) items

-- padding that fills n bytes up to a multiple of four, and goes no further
abbrev pub Fills : ℕ → List ℕ → Type 0
Fills n padding = n + length padding ≡ padded n

-- padding of zeros
abbrev pub zero_padding : ℕ → List ℕ
zero_padding n = replicate (padded n - n) 0

module _ {N : Type 0} where
  -- an item that is read back as it is written: a node's name has no zero byte, and padding is as long as it must be
  abbrev pub Writable : Item N → Type 0
  Writable nop_item = Unit {0}
  Writable (begin_item name padding) = Each NotZero name × Fills (length name + 1) padding
  Writable end_node_item = Unit {0}
  Writable (property_item name value padding) = Fills (length value) padding
  Writable end_item = Unit {0}

  -- an item other than the end item
  abbrev pub NotEnd : Item N → Type 0
  NotEnd nop_item = Unit {0}
  NotEnd (begin_item name padding) = Unit {0}
  NotEnd end_node_item = Unit {0}
  NotEnd (property_item name value padding) = Unit {0}
  NotEnd end_item = ⊥

-- an item that bytes can hold: its name, value and padding are bytes, and the value's length and the name's offset fit a cell
abbrev pub InBytes : Item ℕ → Type 0
InBytes nop_item = Unit {0}
InBytes (begin_item name padding) = Each IsByte name × Each IsByte padding
InBytes end_node_item = Unit {0}
InBytes (property_item offset value padding) = IsCell (length value) × IsCell offset × Each IsByte value × Each IsByte padding
InBytes end_item = Unit {0}
