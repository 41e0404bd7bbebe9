-- The bytes of an encoding are bytes exactly when those of its items are. Assumes nothing.
use mathlib.Core.List.{List, [], ◌∷◌, ◌++◌}
use Prim.Native.Nat.{ℕ}
use native.Mathlib.Omega.{arith}
use lib.ListN.{length}
use Rattle.cells.specs.Bytes.{IsByte, cell_bytes, Each}
use Rattle.cells.proofs.Lists.{each_append, each_first, each_next}
use Rattle.cells.proofs.Bytes.{cell-in-bytes, cell-of-bytes}
use Rattle.encoding.specs.Items.{Item, nop_item, begin_item, end_node_item, property_item, end_item, item_bytes, encode, InBytes}

pub item-in-bytes : (item : Item ℕ) → InBytes item → Each IsByte (item_bytes item)
unfolding item_bytes
item-in-bytes nop_item h = cell-in-bytes 4 (omega arith)
item-in-bytes (begin_item name padding) h =
    each_append IsByte (cell_bytes 1) (name ++ 0 ∷ padding) (cell-in-bytes 1 (omega arith)) (each_append IsByte name (0 ∷ padding) h.0 (omega arith, h.1))
item-in-bytes end_node_item h = cell-in-bytes 2 (omega arith)
item-in-bytes (property_item offset value padding) h =
    each_append IsByte (cell_bytes 3) (cell_bytes (length value) ++ (cell_bytes offset ++ (value ++ padding))) (cell-in-bytes 3 (omega arith))
    (each_append IsByte (cell_bytes (length value)) (cell_bytes offset ++ (value ++ padding)) (cell-in-bytes (length value) h.0)
    (each_append IsByte (cell_bytes offset) (value ++ padding) (cell-in-bytes offset h.1) (each_append IsByte value padding h.2 h.3)))
item-in-bytes end_item h = cell-in-bytes 9 (omega arith)

pub item-of-bytes : (item : Item ℕ) → Each IsByte (item_bytes item) → InBytes item
unfolding item_bytes
item-of-bytes nop_item h = tt
item-of-bytes (begin_item name padding) h =
    let k = each_next IsByte (cell_bytes 1) (name ++ 0 ∷ padding) h in
    (each_first IsByte name (0 ∷ padding) k, (each_next IsByte name (0 ∷ padding) k).1)
item-of-bytes end_node_item h = tt
item-of-bytes (property_item offset value padding) h =
    let k1 = each_next IsByte (cell_bytes 3) (cell_bytes (length value) ++ (cell_bytes offset ++ (value ++ padding))) h in
    let k2 = each_next IsByte (cell_bytes (length value)) (cell_bytes offset ++ (value ++ padding)) k1 in
    let k3 = each_next IsByte (cell_bytes offset) (value ++ padding) k2 in (
      cell-of-bytes (length value) (each_first IsByte (cell_bytes (length value)) (cell_bytes offset ++ (value ++ padding)) k1),
      cell-of-bytes offset (each_first IsByte (cell_bytes offset) (value ++ padding) k2),
      each_first IsByte value padding k3,
      each_next IsByte value padding k3,
    )
item-of-bytes end_item h = tt

pub in_bytes : (items : List (Item ℕ)) → Each InBytes items → Each IsByte (encode items)
unfolding encode
in_bytes [] h = tt
in_bytes (item ∷ items) h = each_append IsByte (item_bytes item) (encode items) (item-in-bytes item h.0) (in_bytes items h.1)

pub of-bytes : (items : List (Item ℕ)) → Each IsByte (encode items) → Each InBytes items
unfolding encode
of-bytes [] h = tt
of-bytes (item ∷ items) h =
    (item-of-bytes item (each_first IsByte (item_bytes item) (encode items) h), of-bytes items (each_next IsByte (item_bytes item) (encode items) h))
