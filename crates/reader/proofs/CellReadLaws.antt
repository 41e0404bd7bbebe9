-- A property of one cell, by where its value lies. Assumes nothing.
use mathlib.Core.Path.{◌≡◌, refl, sym, ap, ◌∙◌}
use mathlib.Core.Bool.{Bool, true, false}
use mathlib.Core.List.{List}
use Prim.Native.Nat.{ℕ, ◌+◌, ◌<◌, ◌≤◌}
use native.Mathlib.Omega.{arith}
use native.Mathlib.Nat.{add-zero}
use borrow.Author.Tests.{eq-eqb, ne_eqb}
use lib.Dec.{eqb}
use lib.ListN.{length, take, drop, get_or, length-take, length-drop}
use lib.Seq.{get_or-take, get_or-drop}
use Rattle.std.specs.Prelude.{None, Some, Ok, Err}
use Rattle.cells.specs.Cells.{cell_at}
use Rattle.refusal.specs.declared.Refusal.TheVariants.{PropertyForm}
use Rattle.nodes.specs.Values.{Value, missing}
use Rattle.nodes.specs.Parts.{Lies}
use Rattle.reader.specs.Parts.{CellIs}

-- the first cell of a part of a tree
cell-part : (tree : List ℕ) (from size : ℕ) → 4 ≤ size → cell_at (take size (drop from tree)) 0 ≡ cell_at tree from
unfolding cell_at
cell-part tree from size h = rw (at 0 (omega arith), at 1 (omega arith), at 2 (omega arith), at 3 (omega arith), add-zero from)
  where
    at : (i : ℕ) → i < 4 → get_or (take size (drop from tree)) i 0 ≡ get_or tree (from + i) 0
    at i l = get_or-take size (drop from tree) i 0 (omega arith) ∙ get_or-drop from tree i 0

module _ {tree : List ℕ} {v : Value} {from size : ℕ} (g : Lies tree v from size) where
  pub long : length (take size (drop from tree)) ≡ size
  long = omega (arith, g.within, length-take size (drop from tree), length-drop from tree)

  pub cell-given : (needed : Bool) {n : ℕ} → size ≡ 4 → n ≡ cell_at tree from → CellIs needed v (Ok (Some n))
  cell-given needed {n} e k =
      let l : eqb (length (take size (drop from tree))) 4 ≡ true = eq-eqb (length (take size (drop from tree))) 4 (long ∙ e) in
      rw g.bytes (record { fault = rw l; cell = λ z. ap Some (k ∙ sym (cell-part tree from size (omega arith))) })

  pub cell-long : (needed : Bool) → (size ≡ 4 → ⊥) → CellIs needed v (Err PropertyForm)
  cell-long needed e =
      let l : eqb (length (take size (drop from tree))) 4 ≡ false = ne_eqb (length (take size (drop from tree))) 4 (λ q. e (sym long ∙ q)) in
      rw g.bytes (record { fault = rw l; cell = λ z. absurd (omega arith) })

module _ {v : Value} (e : v ≡ missing) where
  pub cell-missing : {needed : Bool} → needed ≡ true → CellIs needed v (Err PropertyForm)
  cell-missing z = rw (e, z) (record { fault = refl; cell = λ q. absurd (omega arith) })

  pub cell-absent : {needed : Bool} → needed ≡ false → CellIs needed v (Ok None)
  cell-absent z = rw (e, z) (record { fault = refl; cell = λ q. refl })
