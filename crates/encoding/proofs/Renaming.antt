-- Items whose property names are given in another way: sizes and conditions stay, and so do tokens where the names are read as the same.
-- Assumes nothing.
use mathlib.Core.Path.{◌≡◌, refl, sym, ap, ap₂}
use mathlib.Core.List.{List, [], ◌∷◌, ◌++◌, append_assoc, map}
use Prim.Native.Nat.{ℕ, ◌+◌}
use Rattle.cells.specs.Bytes.{Each}
use Rattle.cells.proofs.Lists.{each_map, each_first, each_next}
use Rattle.strings.specs.Strings.{Text}
use Rattle.tokens.specs.Tokens.{Token, property}
use Rattle.encoding.specs.Items.{Item, nop_item, begin_item, end_node_item, property_item, end_item, whole_block, item_size, items_size, item_token, item_tokens, Writable, NotEnd}
use Rattle.encoding.specs.StringsBlock.{with_names, name_of, property_names, strings_of, renamed}

-- the names of items, one after the other
module _ {N : Type 0} where
  pub names-append : (a b : List (Item N)) → property_names (a ++ b) ≡ property_names a ++ property_names b
  unfolding property_names
  names-append [] b = refl
  names-append (item ∷ a) b = rw (names-append a b) (sym (append_assoc (name_of item) (property_names a) (property_names b)))

  pub names-whole : (items : List (Item N)) → property_names (whole_block items) ≡ property_names items
  unfolding property_names
  names-whole [] = refl
  names-whole (item ∷ items) = rw (names-whole items)

-- the end item adds no string
pub strings-whole : (items : List (Item (List ℕ))) → strings_of (whole_block items) ≡ strings_of items
strings-whole items = ap (with_names []) (names-whole items)

module _ {M N : Type 0} (f : M → N) where
  pub size-renamed : (item : Item M) → item_size (renamed f item) ≡ item_size item
  unfolding renamed item_size
  size-renamed nop_item = refl
  size-renamed (begin_item name padding) = refl
  size-renamed end_node_item = refl
  size-renamed (property_item name value padding) = refl
  size-renamed end_item = refl

  pub sizes-renamed : (items : List (Item M)) → items_size (map (renamed f) items) ≡ items_size items
  unfolding items_size
  sizes-renamed [] = refl
  sizes-renamed (item ∷ items) = ap₂ (λ (a b : ℕ). a + b) (size-renamed item) (sizes-renamed items)

  item-writable : (item : Item M) → Writable item → Writable (renamed f item)
  unfolding renamed
  item-writable nop_item h = h
  item-writable (begin_item name padding) h = h
  item-writable end_node_item h = h
  item-writable (property_item name value padding) h = h
  item-writable end_item h = h

  item-not-end : (item : Item M) → NotEnd item → NotEnd (renamed f item)
  unfolding renamed
  item-not-end nop_item h = h
  item-not-end (begin_item name padding) h = h
  item-not-end end_node_item h = h
  item-not-end (property_item name value padding) h = h
  item-not-end end_item h = h

  pub writable-renamed : (items : List (Item M)) → Each Writable items → Each Writable (map (renamed f) items)
  writable-renamed = each_map Writable Writable (renamed f) item-writable

  pub not-end-renamed : (items : List (Item M)) → Each NotEnd items → Each NotEnd (map (renamed f) items)
  not-end-renamed = each_map NotEnd NotEnd (renamed f) item-not-end

  pub whole-renamed : (items : List (Item M)) → map (renamed f) (whole_block items) ≡ whole_block (map (renamed f) items)
  unfolding renamed
  whole-renamed [] = refl
  whole-renamed (item ∷ items) = ap (λ (r : List (Item N)). renamed f item ∷ r) (whole-renamed items)

  item-name-renamed : (item : Item M) → name_of (renamed f item) ≡ map f (name_of item)
  unfolding renamed
  item-name-renamed nop_item = refl
  item-name-renamed (begin_item name padding) = refl
  item-name-renamed end_node_item = refl
  item-name-renamed (property_item name value padding) = refl
  item-name-renamed end_item = refl

  map-append : (a b : List M) → map f (a ++ b) ≡ map f a ++ map f b
  map-append [] b = refl
  map-append (x ∷ a) b = ap (λ (l : List N). f x ∷ l) (map-append a b)

  pub names-renamed : (items : List (Item M)) → property_names (map (renamed f) items) ≡ map f (property_names items)
  unfolding property_names
  names-renamed [] = refl
  names-renamed (item ∷ items) = rw (item-name-renamed item, names-renamed items) (sym (map-append (name_of item) (property_names items)))

  -- names that are read as the same
  module _ (names : N → Text) (named : M → Text) where
    abbrev pub ReadAs : M → Type 0
    ReadAs name = names (f name) ≡ named name

    token-renamed : (at : ℕ) (item : Item M) → Each ReadAs (name_of item) → item_token names at (renamed f item) ≡ item_token named at item
    unfolding renamed item_token
    token-renamed at nop_item h = refl
    token-renamed at (begin_item name padding) h = refl
    token-renamed at end_node_item h = refl
    token-renamed at (property_item name value padding) h = ap (λ (t : Text). property at t value) h.0
    token-renamed at end_item h = refl

    pub tokens-renamed : (at : ℕ) (items : List (Item M)) → Each ReadAs (property_names items) → item_tokens names at (map (renamed f) items) ≡ item_tokens named at items
    unfolding property_names item_tokens
    tokens-renamed at [] h = refl
    tokens-renamed at (item ∷ items) h =
        rw (size-renamed item)
        (ap₂ (λ (t : Token) (ts : List Token). t ∷ ts)
        (token-renamed at item (each_first ReadAs (name_of item) (property_names items) h))
        (tokens-renamed (at + item_size item) items (each_next ReadAs (name_of item) (property_names items) h)))
