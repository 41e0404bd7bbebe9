-- Laws of cells in a row: bytes are read as the cells that they are the bytes of, and whole cells are the bytes. Assumes nothing.
use mathlib.Core.Path.{◌≡◌, refl, sym, ap, subst, ◌∙◌}
use mathlib.Core.List.{List, [], ◌∷◌, ◌++◌, append_assoc, append-nil, flat_map}
use Prim.Native.Nat.{ℕ, zero, suc, ◌+◌, ◌*◌, ◌/◌, ◌%◌, ◌<◌, ◌≤◌}
use native.Mathlib.Omega.{arith}
use lib.ListN.{length, get_or, take, drop, length-append}
use lib.Seq.{split_at, take_all, length-take-le}
use Rattle.cells.specs.Cells.{cell_at, cells_in}
use Rattle.cells.specs.Rows.{each}
use Rattle.cells.specs.Bytes.{IsByte, IsCell, cell_bytes, Each, Stands}
use Rattle.cells.proofs.Lists.{each_append, each_row}
use Rattle.cells.proofs.Rows.{each-list, length-each}
use Rattle.cells.proofs.Standing.{stands-none, stands-take, stands-joined, stands-between}
use Rattle.cells.proofs.Bytes.{length-cell, stands-cell, cell-in-bytes, cell-stands, is-cell}

flat_append : {A : Type 0} (f : A → List ℕ) (xs ys : List A) → flat_map f (xs ++ ys) ≡ flat_map f xs ++ flat_map f ys
unfolding flat_map
flat_append f [] ys = refl
flat_append f (x ∷ xs) ys = rw (flat_append f xs ys) (sym (append_assoc (f x) (flat_map f xs) (flat_map f ys)))

pub length-cells : (cells : List ℕ) → length (flat_map cell_bytes cells) ≡ 4 * length cells
unfolding flat_map
length-cells [] = refl
length-cells (c ∷ cs) = omega (arith, length-append (cell_bytes c) (flat_map cell_bytes cs), length-cell c, length-cells cs)

pub count-cells : (s : List ℕ) → length (cells_in s) ≡ length s / 4
count-cells s = length-each (length s / 4) (λ (j : ℕ). cell_at s (4 * j))

pub cells-in-bytes : (cells : List ℕ) → Each IsCell cells → Each IsByte (flat_map cell_bytes cells)
unfolding flat_map
cells-in-bytes [] h = tt
cells-in-bytes (c ∷ cs) h = each_append IsByte (cell_bytes c) (flat_map cell_bytes cs) (cell-in-bytes c h.0) (cells-in-bytes cs h.1)

-- the i-th cell stands at its place
cell-there : (cells : List ℕ) (i : ℕ) → i < length cells → Stands (flat_map cell_bytes cells) (4 * i) (cell_bytes (get_or cells i 0))
unfolding flat_map
cell-there cells i h =
    let before = flat_map cell_bytes (take i cells) in
    let c : ℕ = get_or cells i 0 in
    let after = flat_map cell_bytes (drop (suc i) cells) in
    let whole : before ++ (cell_bytes c ++ after) ≡ flat_map cell_bytes cells =
    sym (flat_append cell_bytes (take i cells) (c ∷ drop (suc i) cells)) ∙ ap (flat_map cell_bytes) (sym (split_at cells i 0 h)) in
    let at : length before ≡ 4 * i = length-cells (take i cells) ∙ ap (λ (n : ℕ). 4 * n) (length-take-le i cells (omega arith)) in
    subst (λ (s : List ℕ). Stands s (4 * i) (cell_bytes c)) whole
    (subst (λ (p : ℕ). Stands (before ++ (cell_bytes c ++ after)) p (cell_bytes c)) at (stands-between before (cell_bytes c) after))

-- the bytes of cells are read as these cells
pub cells-back : (cells : List ℕ) → cells_in (flat_map cell_bytes cells) ≡ cells
cells-back cells =
    let s = flat_map cell_bytes cells in
    let n : length s / 4 ≡ length cells = omega (arith, length-cells cells) in
    rw n (each-list 0 cells (λ (j : ℕ). cell_at s (4 * j)) (λ i h. stands-cell s (4 * i) (get_or cells i 0) (cell-there cells i h)))

module _ (s : List ℕ) (bytes : Each IsByte s) where
  abbrev cell_of : ℕ → ℕ
  cell_of j = cell_at s (4 * j)

  cells-stand : (n : ℕ) → 4 * n ≤ length s → Stands s 0 (flat_map cell_bytes (each n cell_of))
  unfolding flat_map
  cells-stand zero h = stands-none s 0
  cells-stand (suc n) h =
      let front = flat_map cell_bytes (each n cell_of) in
      let last = cell_bytes (cell_of n) in
      let end : 0 + length front ≡ 4 * n = omega (arith, length-cells (each n cell_of), length-each n cell_of) in
      let joined : front ++ last ≡ flat_map cell_bytes (each n cell_of ++ (cell_of n ∷ [])) =
      ap (λ (l : List ℕ). front ++ l) (sym (append-nil last)) ∙ sym (flat_append cell_bytes (each n cell_of) (cell_of n ∷ [])) in
      subst (Stands s 0) joined
      (stands-joined s 0 (4 * n) front last end (cells-stand n (omega arith)) (cell-stands s bytes (4 * n) (cell_of n) (omega arith) refl))

  -- whole cells are the bytes, and they are cells
  pub bytes_back : length s % 4 ≡ 0 → flat_map cell_bytes (cells_in s) ≡ s
  bytes_back h =
      let n : ℕ = length s / 4 in
      let l : length (flat_map cell_bytes (cells_in s)) ≡ length s = omega (arith, length-cells (cells_in s), count-cells s) in
      sym (stands-take s 0 (flat_map cell_bytes (cells_in s)) (cells-stand n (omega arith))) ∙ take_all (length (flat_map cell_bytes (cells_in s))) s (omega arith)

  pub are-cells : Each IsCell (cells_in s)
  are-cells = each_row IsCell (length s / 4) cell_of (λ i h. is-cell s bytes (4 * i) (omega arith))
