-- Items without NOPs: their tokens are the same without NOP tokens, offsets apart; nothing else is lost. Assumes nothing.
use mathlib.Core.Path.{◌≡◌, refl, ap}
use mathlib.Core.List.{List, [], ◌∷◌, ◌++◌, map}
use Prim.Native.Nat.{ℕ, ◌+◌, ◌≤◌}
use native.Mathlib.Omega.{arith}
use Rattle.cells.specs.Bytes.{Each}
use Rattle.strings.specs.Strings.{Text, ended}
use Rattle.tokens.specs.Tokens.{Token, begin_node, end_node, property, end}
use Rattle.encoding.specs.Items.{Item, nop_item, begin_item, end_node_item, property_item, end_item, whole_block, item_size, items_size, item_token, item_tokens}
use Rattle.encoding.specs.StringsBlock.{property_names, renamed}
use Rattle.encoding.specs.Nops.{without_nops, without_nop_tokens, without_offset}

module _ {N : Type 0} where
  pub nops-dropped : (names : N → Text) (at place : ℕ) (items : List (Item N))
      → map without_offset (item_tokens names place (without_nops items)) ≡ map without_offset (without_nop_tokens (item_tokens names at items))
  unfolding without_nops without_nop_tokens without_offset item_tokens item_token
  nops-dropped names at place [] = refl
  nops-dropped names at place (nop_item ∷ items) = nops-dropped names (at + item_size {N = N} nop_item) place items
  nops-dropped names at place (begin_item name padding ∷ items) =
      ap (λ (ts : List Token). begin_node 0 (ended name) ∷ ts) (nops-dropped names (at + item_size {N = N} (begin_item name padding)) (place + item_size {N = N} (begin_item name padding)) items)
  nops-dropped names at place (end_node_item ∷ items) =
      ap (λ (ts : List Token). end_node 0 ∷ ts) (nops-dropped names (at + item_size {N = N} end_node_item) (place + item_size {N = N} end_node_item) items)
  nops-dropped names at place (property_item name value padding ∷ items) =
      ap (λ (ts : List Token). property 0 (names name) value ∷ ts) (nops-dropped names (at + item_size (property_item name value padding)) (place + item_size (property_item name value padding)) items)
  nops-dropped names at place (end_item ∷ items) =
      ap (λ (ts : List Token). end 0 ∷ ts) (nops-dropped names (at + item_size {N = N} end_item) (place + item_size {N = N} end_item) items)

  pub nops-dropped-twice : (items : List (Item N)) → without_nops (without_nops items) ≡ without_nops items
  unfolding without_nops
  nops-dropped-twice [] = refl
  nops-dropped-twice (nop_item ∷ items) = nops-dropped-twice items
  nops-dropped-twice (begin_item name padding ∷ items) = ap (λ (l : List (Item N)). begin_item name padding ∷ l) (nops-dropped-twice items)
  nops-dropped-twice (end_node_item ∷ items) = ap (λ (l : List (Item N)). end_node_item ∷ l) (nops-dropped-twice items)
  nops-dropped-twice (property_item name value padding ∷ items) =
      ap (λ (l : List (Item N)). property_item name value padding ∷ l) (nops-dropped-twice items)
  nops-dropped-twice (end_item ∷ items) = ap (λ (l : List (Item N)). end_item ∷ l) (nops-dropped-twice items)

  pub nops-append : (a b : List (Item N)) → without_nops (a ++ b) ≡ without_nops a ++ without_nops b
  unfolding without_nops
  nops-append [] b = refl
  nops-append (nop_item ∷ a) b = nops-append a b
  nops-append (begin_item name padding ∷ a) b = ap (λ (l : List (Item N)). begin_item name padding ∷ l) (nops-append a b)
  nops-append (end_node_item ∷ a) b = ap (λ (l : List (Item N)). end_node_item ∷ l) (nops-append a b)
  nops-append (property_item name value padding ∷ a) b = ap (λ (l : List (Item N)). property_item name value padding ∷ l) (nops-append a b)
  nops-append (end_item ∷ a) b = ap (λ (l : List (Item N)). end_item ∷ l) (nops-append a b)

  pub nops-whole : (items : List (Item N)) → without_nops (whole_block items) ≡ whole_block (without_nops items)
  unfolding without_nops
  nops-whole items = nops-append items (end_item ∷ [])

  -- what holds of each item holds of each that is left
  pub nops-each : (P : Item N → Type 0) (items : List (Item N)) → Each P items → Each P (without_nops items)
  unfolding without_nops
  nops-each P [] h = tt
  nops-each P (nop_item ∷ items) h = nops-each P items h.1
  nops-each P (begin_item name padding ∷ items) h = (h.0, nops-each P items h.1)
  nops-each P (end_node_item ∷ items) h = (h.0, nops-each P items h.1)
  nops-each P (property_item name value padding ∷ items) h = (h.0, nops-each P items h.1)
  nops-each P (end_item ∷ items) h = (h.0, nops-each P items h.1)

  -- the names are the same, and so is the strings block
  pub nops-names : (items : List (Item N)) → property_names (without_nops items) ≡ property_names items
  unfolding without_nops property_names
  nops-names [] = refl
  nops-names (nop_item ∷ items) = nops-names items
  nops-names (begin_item name padding ∷ items) = nops-names items
  nops-names (end_node_item ∷ items) = nops-names items
  nops-names (property_item name value padding ∷ items) = ap (λ (l : List N). name ∷ l) (nops-names items)
  nops-names (end_item ∷ items) = nops-names items

  pub nops-size : (items : List (Item N)) → items_size (without_nops items) ≤ items_size items
  unfolding without_nops items_size
  nops-size [] = omega arith
  nops-size (nop_item ∷ items) = omega (arith, nops-size items)
  nops-size (begin_item name padding ∷ items) = omega (arith, nops-size items)
  nops-size (end_node_item ∷ items) = omega (arith, nops-size items)
  nops-size (property_item name value padding ∷ items) = omega (arith, nops-size items)
  nops-size (end_item ∷ items) = omega (arith, nops-size items)

module _ {M N : Type 0} (f : M → N) where
  pub nops-renamed : (items : List (Item M)) → without_nops (map (renamed f) items) ≡ map (renamed f) (without_nops items)
  unfolding without_nops renamed
  nops-renamed [] = refl
  nops-renamed (nop_item ∷ items) = nops-renamed items
  nops-renamed (begin_item name padding ∷ items) = ap (λ (l : List (Item N)). begin_item name padding ∷ l) (nops-renamed items)
  nops-renamed (end_node_item ∷ items) = ap (λ (l : List (Item N)). end_node_item ∷ l) (nops-renamed items)
  nops-renamed (property_item name value padding ∷ items) = ap (λ (l : List (Item N)). property_item (f name) value padding ∷ l) (nops-renamed items)
  nops-renamed (end_item ∷ items) = ap (λ (l : List (Item N)). end_item ∷ l) (nops-renamed items)
