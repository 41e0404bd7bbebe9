-- An item that stands at a place is read as its token there: one law for each kind of item. Assumes nothing.
use mathlib.Core.Path.{◌≡◌, ◌∙◌}
use mathlib.Core.List.{List, [], ◌∷◌, ◌++◌, append_assoc}
use Prim.Native.Nat.{ℕ, ◌+◌, ◌≤◌}
use native.Mathlib.Omega.{arith}
use lib.ListN.{length}
use Rattle.cells.specs.Cells.{cell_at}
use Rattle.cells.specs.Bytes.{cell_bytes, Each, Stands}
use Rattle.cells.proofs.Standing.{stands-take, stands-first, stands_after}
use Rattle.cells.proofs.Bytes.{length-cell, stands-cell}
use Rattle.stringlist.specs.StringList.{NotZero}
use Rattle.strings.specs.Strings.{Text, ended}
use Rattle.tokens.specs.Steps.{padded}
use Rattle.tokens.specs.Tokens.{begin_node, end_node, property, nop, end, tokens}
use Rattle.tokens.proofs.Stepping.{step-begin, step-end-node, step-property, step-nop, step_end, property-whole}
use Rattle.tokens.proofs.TokenList.{tokens-step}
use Rattle.encoding.specs.Items.{Item, nop_item, begin_item, end_node_item, property_item, end_item, item_bytes, item_size, item_token, Fills, Writable, NotEnd}
use Rattle.encoding.proofs.Sizes.{padded-low}
use Rattle.encoding.proofs.TextReading.{stands-text}

module _ (s : List ℕ) (stop : ℕ) (names : ℕ → Text) (at : ℕ) where
  read-nop : Stands s at (cell_bytes 4) → at + 4 ≤ stop → tokens s stop names at ≡ nop at ∷ tokens s stop names (at + 4)
  read-nop w r = tokens-step s stop names at (step-nop s stop at r (stands-cell s at 4 w))

  read-end-node : Stands s at (cell_bytes 2) → at + 4 ≤ stop → tokens s stop names at ≡ end_node at ∷ tokens s stop names (at + 4)
  read-end-node w r = tokens-step s stop names at (step-end-node s stop at r (stands-cell s at 2 w))

  read-end : Stands s at (cell_bytes 9) → at + 4 ≤ stop → tokens s stop names at ≡ end at ∷ []
  read-end w r = tokens-step s stop names at (step_end s stop at r (stands-cell s at 9 w))

  read-begin : (name padding : List ℕ) → Each NotZero name → Fills (length name + 1) padding
      → Stands s at (cell_bytes 1 ++ (name ++ 0 ∷ padding)) → at + (4 + padded (length name + 1)) ≤ stop
      → tokens s stop names at ≡ begin_node at (ended name) ∷ tokens s stop names (at + (4 + padded (length name + 1)))
  read-begin name padding z f w r =
      let c = stands-first s at (cell_bytes 1) (name ++ 0 ∷ padding) w in
      let v = stands_after s at (at + 4) (cell_bytes 1) (name ++ 0 ∷ padding) (omega (arith, length-cell 1)) w in
      let n = stands-first s (at + 4) (name ++ 0 ∷ []) padding (rw (append_assoc name (0 ∷ []) padding) v) in
      let t = stands-text s (at + 4) stop name z n (omega (arith, padded-low (length name + 1))) in
      let e : at + 4 + padded (length name + 1) ≡ at + (4 + padded (length name + 1)) = omega arith in
      tokens-step s stop names at (step-begin s stop at (omega arith) (stands-cell s at 1 c)) ∙ rw (t, e)

  read-property : (offset : ℕ) (value padding : List ℕ)
      → Stands s at (cell_bytes 3 ++ (cell_bytes (length value) ++ (cell_bytes offset ++ (value ++ padding)))) → at + (12 + padded (length value)) ≤ stop
      → tokens s stop names at ≡ property at (names offset) value ∷ tokens s stop names (at + (12 + padded (length value)))
  read-property offset value padding w r =
      let r3 : List ℕ = cell_bytes offset ++ (value ++ padding) in
      let r2 : List ℕ = cell_bytes (length value) ++ r3 in
      let w2 = stands_after s at (at + 4) (cell_bytes 3) r2 (omega (arith, length-cell 3)) w in
      let w3 = stands_after s (at + 4) (at + 8) (cell_bytes (length value)) r3 (omega (arith, length-cell (length value))) w2 in
      let w4 = stands_after s (at + 8) (at + 12) (cell_bytes offset) (value ++ padding) (omega (arith, length-cell offset)) w3 in
      let c1 = stands-cell s at 3 (stands-first s at (cell_bytes 3) r2 w) in
      let c2 = stands-cell s (at + 4) (length value) (stands-first s (at + 4) (cell_bytes (length value)) r3 w2) in
      let c3 = stands-cell s (at + 8) offset (stands-first s (at + 8) (cell_bytes offset) (value ++ padding) w3) in
      let v = stands-take s (at + 12) value (stands-first s (at + 12) value padding w4) in
      let e : at + 12 + padded (length value) ≡ at + (12 + padded (length value)) = omega arith in
      let k : at + 12 + padded (cell_at s (at + 4)) ≤ stop = rw c2 (omega arith) in
      tokens-step s stop names at (step-property s stop at (omega arith) c1 ∙ property-whole s stop at (omega arith) k)
      ∙ rw (c2, c3, v, e)

  pub item-read : (item : Item ℕ) → Writable item → NotEnd item → Stands s at (item_bytes item) → at + item_size item ≤ stop
      → tokens s stop names at ≡ item_token names at item ∷ tokens s stop names (at + item_size item)
  unfolding item_bytes item_size item_token
  item-read nop_item h k w r = read-nop w r
  item-read (begin_item name padding) h k w r = read-begin name padding h.0 h.1 w r
  item-read end_node_item h k w r = read-end-node w r
  item-read (property_item offset value padding) h k w r = read-property offset value padding w r
  item-read end_item h k w r = absurd k

  pub end_read : Stands s at (item_bytes end_item) → at + 4 ≤ stop → tokens s stop names at ≡ end at ∷ []
  unfolding item_bytes
  end_read w r = read-end w r
