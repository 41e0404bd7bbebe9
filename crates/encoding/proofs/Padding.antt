-- "padding isn't examined": blocks of items that differ in their padding alone have the same tokens. Assumes nothing.
use Prim.Native.Nat.{ℕ, ◌+◌, ◌≤◌}
use mathlib.Core.Path.{◌≡◌, refl, sym, ap, ap₂, ◌∙◌}
use mathlib.Core.List.{List, [], ◌∷◌, map}
use lib.ListN.{length}
use Rattle.cells.specs.Bytes.{Each, Stands}
use Rattle.strings.specs.Strings.{Text}
use Rattle.tokens.specs.Tokens.{tokens}
use Rattle.encoding.specs.Items.{Item, nop_item, begin_item, end_node_item, property_item, end_item, encode, whole_block, item_size, item_token, item_tokens, Writable, NotEnd}
use Rattle.encoding.specs.Padding.{without_padding}
use Rattle.encoding.proofs.ReadBack.{block_read}

module _ {N : Type 0} (names : N → Text) where
  -- neither an item's size nor its token has to do with its padding
  size-without : (item : Item N) → item_size (without_padding item) ≡ item_size item
  unfolding without_padding item_size
  size-without nop_item = refl
  size-without (begin_item name padding) = refl
  size-without end_node_item = refl
  size-without (property_item name value padding) = refl
  size-without end_item = refl

  token-without : (at : ℕ) (item : Item N) → item_token names at (without_padding item) ≡ item_token names at item
  unfolding without_padding item_token
  token-without at nop_item = refl
  token-without at (begin_item name padding) = refl
  token-without at end_node_item = refl
  token-without at (property_item name value padding) = refl
  token-without at end_item = refl

  tokens-without : (at : ℕ) (items : List (Item N)) → item_tokens names at (map without_padding items) ≡ item_tokens names at items
  unfolding item_tokens
  tokens-without at [] = refl
  tokens-without at (item ∷ items) =
      ap₂ ◌∷◌ (token-without at item) (ap (λ (n : ℕ). item_tokens names (at + n) (map without_padding items)) (size-without item) ∙ tokens-without (at + item_size item) items)

  whole-without : (items : List (Item N)) → map without_padding (whole_block items) ≡ whole_block (map without_padding items)
  unfolding without_padding
  whole-without [] = refl
  whole-without (item ∷ items) = ap (λ (others : List (Item N)). without_padding item ∷ others) (whole-without items)

  block-without : (at : ℕ) (items : List (Item N)) → item_tokens names at (whole_block (map without_padding items)) ≡ item_tokens names at (whole_block items)
  block-without at items = ap (item_tokens names at) (sym (whole-without items)) ∙ tokens-without at (whole_block items)

-- one of two runs of bytes holds items, the other holds others, from the same place on
module _ (s t : List ℕ) (stop : ℕ) (names : ℕ → Text) (at : ℕ) (items others : List (Item ℕ)) where
  pub same-padded : map without_padding items ≡ map without_padding others
      → Each Writable items → Each NotEnd items → Stands s at (encode (whole_block items)) → at + length (encode (whole_block items)) ≤ stop
      → Each Writable others → Each NotEnd others → Stands t at (encode (whole_block others)) → at + length (encode (whole_block others)) ≤ stop
      → tokens s stop names at ≡ tokens t stop names at
  same-padded e h k w r h2 k2 w2 r2 =
      block_read s stop names at items h k w r
      ∙ sym (block-without names at items)
      ∙ ap (λ (l : List (Item ℕ)). item_tokens names at (whole_block l)) e
      ∙ block-without names at others
      ∙ sym (block_read t stop names at others h2 k2 w2 r2)
