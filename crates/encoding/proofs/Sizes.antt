-- How long an encoding is: the sum of its items' sizes, a multiple of four; and what stands one after the other. Assumes nothing.
use mathlib.Core.Path.{◌≡◌, refl, sym, ap, ◌∙◌}
use mathlib.Core.List.{List, [], ◌∷◌, ◌++◌, append_assoc}
use Prim.Native.Nat.{ℕ, ◌+◌, ◌-◌, ◌%◌, ◌≤◌}
use native.Mathlib.Omega.{arith}
use lib.ListN.{length, length-append, length-replicate}
use Rattle.cells.specs.Bytes.{Each}
use Rattle.cells.proofs.Bytes.{length-cell}
use Rattle.strings.specs.Strings.{Text}
use Rattle.tokens.specs.Steps.{padded}
use Rattle.tokens.specs.Tokens.{Token}
use Rattle.encoding.specs.Items.{Item, nop_item, begin_item, end_node_item, property_item, end_item, item_bytes, encode, item_size, items_size, item_token, item_tokens, Fills, zero_padding, Writable}

-- padded lengths
pub padded-low : (n : ℕ) → n ≤ padded n
unfolding padded
padded-low n = omega arith

pub padded-multiple : (n : ℕ) → padded n % 4 ≡ 0
unfolding padded
padded-multiple n = omega arith

pub padded-fits : (n m : ℕ) → n ≤ m → m % 4 ≡ 0 → padded n ≤ m
unfolding padded
padded-fits n m h e = omega arith

pub zeros-fill : (n : ℕ) → Fills n (zero_padding n)
zeros-fill n = omega (arith, length-replicate {A = ℕ} (padded n - n) 0, padded-low n)

-- one item
module _ {N : Type 0} where
  pub size-multiple : (item : Item N) → item_size item % 4 ≡ 0
  unfolding item_size
  size-multiple nop_item = refl
  size-multiple (begin_item name padding) = omega (arith, padded-multiple (length name + 1))
  size-multiple end_node_item = refl
  size-multiple (property_item name value padding) = omega (arith, padded-multiple (length value))
  size-multiple end_item = refl

  pub size_low : (item : Item N) → 4 ≤ item_size item
  unfolding item_size
  size_low nop_item = omega arith
  size_low (begin_item name padding) = omega arith
  size_low end_node_item = omega arith
  size_low (property_item name value padding) = omega arith
  size_low end_item = omega arith

pub length-item : (item : Item ℕ) → Writable item → length (item_bytes item) ≡ item_size item
unfolding item_bytes item_size
length-item nop_item h = length-cell 4
length-item (begin_item name padding) h = simp (length-append, length-cell) (omega arith)
length-item end_node_item h = length-cell 2
length-item (property_item offset value padding) h = simp (length-append, length-cell) (omega arith)
length-item end_item h = length-cell 9

-- items
pub length-encode : (items : List (Item ℕ)) → Each Writable items → length (encode items) ≡ items_size items
unfolding encode items_size
length-encode [] h = refl
length-encode (item ∷ items) h =
    omega (arith, length-append (item_bytes item) (encode items), length-item item h.0, length-encode items h.1)

module _ {N : Type 0} where
  pub sizes-multiple : (items : List (Item N)) → items_size items % 4 ≡ 0
  unfolding items_size
  sizes-multiple [] = refl
  sizes-multiple (item ∷ items) = omega (arith, size-multiple item, sizes-multiple items)

  pub sizes-append : (a b : List (Item N)) → items_size (a ++ b) ≡ items_size a + items_size b
  unfolding items_size
  sizes-append [] b = omega arith
  sizes-append (item ∷ a) b = omega (arith, sizes-append a b)

  pub tokens_append : (names : N → Text) (at : ℕ) (a b : List (Item N)) → item_tokens names at (a ++ b) ≡ item_tokens names at a ++ item_tokens names (at + items_size a) b
  unfolding item_tokens items_size
  tokens_append names at [] b = let e : at + 0 ≡ at = omega arith in rw e
  tokens_append names at (item ∷ a) b =
      let e : at + (item_size item + items_size a) ≡ at + item_size item + items_size a = omega arith in
      rw e (ap (λ (ts : List Token). item_token names at item ∷ ts) (tokens_append names (at + item_size item) a b))

pub encode-multiple : (items : List (Item ℕ)) → Each Writable items → length (encode items) % 4 ≡ 0
encode-multiple items h = ap (λ (n : ℕ). n % 4) (length-encode items h) ∙ sizes-multiple items

pub encode-append : (a b : List (Item ℕ)) → encode (a ++ b) ≡ encode a ++ encode b
unfolding encode
encode-append [] b = refl
encode-append (item ∷ a) b = rw (encode-append a b) (sym (append_assoc (item_bytes item) (encode a) (encode b)))
