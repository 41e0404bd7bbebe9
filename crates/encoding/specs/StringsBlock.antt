-- A strings block that holds the property names of items once each, and the items with their names' offsets in it.
use Rattle.std.specs.Prelude.{ℕ, ◌+◌, Bool, false, List, [], ◌∷◌, ◌++◌, map, length}
use Rattle.strings.specs.Strings.{Text, ended, unended, same_bytes}
use Rattle.names.specs.Names.{either}
use Rattle.tokens.specs.Steps.{pick}
use Rattle.encoding.specs.Items.{Item, nop_item, begin_item, end_node_item, property_item, end_item}

-- a name is among others
unfoldable pub listed : List ℕ → List (List ℕ) → Bool
listed name [] = false
listed name (n ∷ ns) = either (same_bytes n name) (listed name ns)

-- where a name stands in the strings block
unfoldable pub offset_in : List (List ℕ) → List ℕ → ℕ
offset_in [] name = 0
offset_in (n ∷ ns) name = pick (same_bytes n name) 0 (length n + 1 + offset_in ns name)

-- names with one more, unless it is among them
unfoldable pub with_name : List (List ℕ) → List ℕ → List (List ℕ)
with_name names name = pick (listed name names) names (names ++ name ∷ [])

-- names with those of a list, once each, in order of first use
unfoldable pub with_names : List (List ℕ) → List (List ℕ) → List (List ℕ)
with_names names [] = names
with_names names (n ∷ ns) = with_names (with_name names n) ns

-- the name of a property item; of another item none
abbrev pub name_of : {N : Type 0} → Item N → List N
name_of nop_item = []
name_of (begin_item name padding) = []
name_of end_node_item = []
name_of (property_item name value padding) = name ∷ []
name_of end_item = []

-- the property names of items, in order
unfoldable pub property_names : {N : Type 0} → List (Item N) → List N
property_names [] = []
property_names (item ∷ items) = name_of item ++ property_names items

-- the names of the items' strings block: "strings stand once each, in order of first use" (A6)
abbrev pub strings_of : List (Item (List ℕ)) → List (List ℕ)
strings_of items = with_names [] (property_names items)

-- an item with its property's name given in another way
unfoldable pub renamed : {M N : Type 0} → (M → N) → Item M → Item N
renamed f nop_item = nop_item
renamed f (begin_item name padding) = begin_item name padding
renamed f end_node_item = end_node_item
renamed f (property_item name value padding) = property_item (f name) value padding
renamed f end_item = end_item

-- items with the offsets of their names in their strings block
abbrev pub with_offsets : List (Item (List ℕ)) → List (Item ℕ)
with_offsets items = map (renamed (offset_in (strings_of items))) items

-- the characters of a string; none where it does not end
abbrev pub characters : Text → List ℕ
characters (ended cs) = cs
characters unended = []

-- a string that has its zero byte
abbrev pub Ended : Text → Type 0
Ended (ended cs) = Unit {0}
Ended unended = ⊥

-- the name at an offset has its zero byte
abbrev pub NameEnds : (ℕ → Text) → ℕ → Type 0
NameEnds names offset = Ended (names offset)

-- items with the characters of their names
abbrev pub with_characters : (ℕ → Text) → List (Item ℕ) → List (Item (List ℕ))
with_characters names items = map (renamed (λ (offset : ℕ). characters (names offset))) items
