-- Where the cells of a feature's dependencies lie. Assumes nothing.
use mathlib.Core.Path.{◌≡◌, sym, ◌∙◌}
use mathlib.Core.List.{List}
use Prim.Native.Nat.{ℕ, ◌+◌, ◌*◌, ◌/◌, ◌<◌, ◌≤◌}
use native.Mathlib.Omega.{arith}
use lib.ListN.{length, get_or, take, drop, length-take, length-drop}
use lib.Seq.{get_or-take, get_or-drop}
use Rattle.cells.specs.Cells.{cell_at}
use Rattle.cells.proofs.Rows.{length-each, row-at}
use Rattle.nodes.specs.Values.{Value, cells_of}
use Rattle.nodes.specs.Parts.{Lies}
use Rattle.reader.specs.Parts.{CellsLie}

-- a cell of a part of a tree
cell-inside : (tree : List ℕ) (from size at : ℕ) → at + 4 ≤ size → cell_at tree (from + at) ≡ cell_at (take size (drop from tree)) at
unfolding cell_at
cell-inside tree from size at h =
    let e1 : from + (at + 1) ≡ from + at + 1 = omega arith in
    let e2 : from + (at + 2) ≡ from + at + 2 = omega arith in
    let e3 : from + (at + 3) ≡ from + at + 3 = omega arith in
    rw (byte at (omega arith), byte (at + 1) (omega arith), byte (at + 2) (omega arith), byte (at + 3) (omega arith), e1, e2, e3)
  where
    byte : (i : ℕ) → i < size → get_or (take size (drop from tree)) i 0 ≡ get_or tree (from + i) 0
    byte i l = get_or-take size (drop from tree) i 0 l ∙ get_or-drop from tree i 0

-- where the cells of a value lie
pub cells-lie : {tree : List ℕ} {v : Value} {from size : ℕ} → Lies tree v from size → CellsLie tree (cells_of v) from
cells-lie {tree} {v} {from} {size} g =
    let bs = take size (drop from tree) in
    let long : length bs ≡ size = omega (arith, g.within, length-take size (drop from tree), length-drop from tree) in
    let count = length-each (length bs / 4) (λ (j : ℕ). cell_at bs (4 * j)) in
    rw g.bytes
    (record {
      within = omega (arith, count, g.within);
      each =
          λ j l.
          let m : j < length bs / 4 = omega (arith, count) in
          cell-inside tree from size (4 * j) (omega arith) ∙ sym (row-at (length bs / 4) (λ (j : ℕ). cell_at bs (4 * j)) j 0 m);
    })
