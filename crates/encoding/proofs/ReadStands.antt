-- What is read at a place stands there: the string, and the item of each kind of token. Assumes nothing.
use mathlib.Core.Path.{◌≡◌, refl, sym, ap, subst, ◌∙◌}
use mathlib.Core.Bool.{Bool, true, false}
use mathlib.Core.List.{List, [], ◌∷◌, ◌++◌, append_assoc}
use Prim.Native.Nat.{ℕ, ◌+◌, ◌-◌, ◌%◌, ◌<◌, ◌≤◌}
use native.Mathlib.Omega.{arith}
use borrow.Author.Tests.{eqb-true, eqb-false}
use lib.Dec.{eqb}
use lib.ListN.{length, take, drop, length-append, length-take, length-drop}
use lib.Seq.{take-take, length-take-le}
use Rattle.cells.specs.Cells.{cell_at}
use Rattle.cells.specs.Bytes.{IsByte, cell_bytes, Each, Stands}
use Rattle.cells.proofs.Standing.{stands-taken, stands-joined}
use Rattle.cells.proofs.Bytes.{length-cell, cell-stands}
use Rattle.stringlist.specs.StringList.{NotZero}
use Rattle.strings.specs.Strings.{Text, ended, unended, onto, text_of, text_at}
use Rattle.tokens.specs.Steps.{padded}
use Rattle.encoding.specs.Items.{Item, nop_item, begin_item, end_node_item, property_item, end_item, item_bytes, item_size, Writable}
use Rattle.encoding.proofs.Sizes.{padded-low, padded-fits}

-- what a run of bytes begins with
abbrev Begins : List ℕ → Text → Type 0
Begins l (ended name) = Each NotZero name × (take (length (name ++ 0 ∷ [])) l ≡ name ++ 0 ∷ []) × (length name < length l)
Begins l unended = Unit {0}

text-begins : (l : List ℕ) → Begins l (text_of l)
unfolding text_of
text-begins [] = tt
text-begins (b ∷ l) = go (eqb b 0) refl (text_of l) (text-begins l)
  where
    go : (t : Bool) → eqb b 0 ≡ t → (x : Text) → Begins l x → Begins (b ∷ l) (elim t as (λ _. Text) [ true ↦ ended [] | false ↦ onto b x ])
    go true e x h = (tt, ap (λ (c : ℕ). c ∷ []) (eqb-true b 0 e), omega arith)
    go false e (ended cs) h = ((eqb-false b 0 e, h.0), ap (λ (r : List ℕ). b ∷ r) h.1, omega arith)
    go false e unended h = tt

-- a string that is read stands there
pub text-stands : (s : List ℕ) (from stop : ℕ) (name : List ℕ) → text_at s from stop ≡ ended name
    → Each NotZero name × Stands s from (name ++ 0 ∷ []) × (from + length name < stop)
unfolding text_at Stands
text-stands s from stop name e =
    let l : List ℕ = take (stop - from) (drop from s) in
    let h : Begins l (ended name) = subst (Begins l) e (text-begins l) in
    let k : length (name ++ 0 ∷ []) ≤ stop - from = omega (arith, length-append name (0 ∷ []), length-take (stop - from) (drop from s)) in
    (h.0, sym (take-take (length (name ++ 0 ∷ [])) (stop - from) (drop from s) k) ∙ h.1, omega (arith, length-take (stop - from) (drop from s)))

-- a writable item stands at a place, within a block that ends at `stop`
pub record ItemAt (s : List ℕ) (stop at : ℕ) (item : Item ℕ) : Type 0 where
  pub stands : Stands s at (item_bytes item)
  pub writable : Writable item
  pub within : at + item_size item ≤ stop

module _ (s : List ℕ) (bytes : Each IsByte s) (stop at : ℕ) (fits : stop ≤ length s) where
  pub nop-at : at + 4 ≤ stop → cell_at s at ≡ 4 → ItemAt s stop at nop_item
  unfolding item_bytes item_size
  nop-at r e = record { stands = cell-stands s bytes at 4 (omega arith) e; writable = tt; within = r }

  pub end-node-at : at + 4 ≤ stop → cell_at s at ≡ 2 → ItemAt s stop at end_node_item
  unfolding item_bytes item_size
  end-node-at r e = record { stands = cell-stands s bytes at 2 (omega arith) e; writable = tt; within = r }

  pub end-at : at + 4 ≤ stop → cell_at s at ≡ 9 → ItemAt s stop at end_item
  unfolding item_bytes item_size
  end-at r e = record { stands = cell-stands s bytes at 9 (omega arith) e; writable = tt; within = r }

  -- the block's end and the place are multiples of 4, so the padding is not cut
  pub begin-at : (name : List ℕ) → at % 4 ≡ 0 → stop % 4 ≡ 0 → at + 4 ≤ stop → cell_at s at ≡ 1 → text_at s (at + 4) stop ≡ ended name
      → (padding : List ℕ) × ItemAt s stop at (begin_item name padding)
  unfolding item_bytes item_size
  begin-at name a w r e t =
      let g = text-stands s (at + 4) stop name t in
      let low = padded-low (length name + 1) in
      let high : padded (length name + 1) ≤ stop - (at + 4) = padded-fits (length name + 1) (stop - (at + 4)) (omega (arith, g.2)) (omega arith) in
      let from : ℕ = at + 4 + (length name + 1) in
      let n : ℕ = padded (length name + 1) - (length name + 1) in
      let padding : List ℕ = take n (drop from s) in
      let l : length padding ≡ n = length-take-le n (drop from s) (omega (arith, length-drop from s)) in
      let v : Stands s (at + 4) ((name ++ 0 ∷ []) ++ padding) =
      stands-joined s (at + 4) from (name ++ 0 ∷ []) padding (omega (arith, length-append name (0 ∷ []))) g.1 (stands-taken s from n (omega arith)) in (
        padding,
        record {
          stands = stands-joined s at (at + 4) (cell_bytes 1) (name ++ 0 ∷ padding) (omega (arith, length-cell 1)) (cell-stands s bytes at 1 (omega arith) e)
              (rw (append_assoc name (0 ∷ []) padding) at v);
          writable = (g.0, omega arith);
          within = omega arith;
        },
      )

  pub property-at : at + 12 + padded (cell_at s (at + 4)) ≤ stop → cell_at s at ≡ 3
      → (value : List ℕ) × (padding : List ℕ) × (length value ≡ cell_at s (at + 4)) × ItemAt s stop at (property_item (cell_at s (at + 8)) value padding)
  unfolding item_bytes item_size
  property-at r e =
      let m : ℕ = cell_at s (at + 4) in
      let offset : ℕ = cell_at s (at + 8) in
      let low = padded-low m in
      let n : ℕ = padded m - m in
      let value : List ℕ = take m (drop (at + 12) s) in
      let padding : List ℕ = take n (drop (at + 12 + m) s) in
      let i : length value ≡ m = length-take-le m (drop (at + 12) s) (omega (arith, length-drop (at + 12) s)) in
      let j : length padding ≡ n = length-take-le n (drop (at + 12 + m) s) (omega (arith, length-drop (at + 12 + m) s)) in
      let p = ap padded i in
      let v4 = stands-joined s (at + 12) (at + 12 + m) value padding (omega arith) (stands-taken s (at + 12) m (omega arith)) (stands-taken s (at + 12 + m) n (omega arith)) in
      let v3 = stands-joined s (at + 8) (at + 12) (cell_bytes offset) (value ++ padding) (omega (arith, length-cell offset)) (cell-stands s bytes (at + 8) offset (omega arith) refl) v4 in
      let v2 = stands-joined s (at + 4) (at + 8) (cell_bytes (length value)) (cell_bytes offset ++ (value ++ padding)) (omega (arith, length-cell (length value))) (cell-stands s bytes (at + 4) (length value) (omega arith) (sym i)) v3 in
      let v1 = stands-joined s at (at + 4) (cell_bytes 3) (cell_bytes (length value) ++ (cell_bytes offset ++ (value ++ padding))) (omega (arith, length-cell 3)) (cell-stands s bytes at 3 (omega arith) e) v2 in
      (value, padding, i, record { stands = v1; writable = omega arith; within = omega arith })
