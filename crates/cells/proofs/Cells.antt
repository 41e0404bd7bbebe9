-- Laws of cells. Assumes nothing.
use mathlib.Core.Path.{◌≡◌, ap, ◌∙◌}
use Prim.Native.Nat.{ℕ, ◌+◌, ◌-◌, ◌≤◌}
use mathlib.Core.List.{List}
use native.Mathlib.Omega.{arith}
use lib.ListN.{length, get_or, drop, length-drop, get_or-eq_default}
use lib.Seq.{take_all, get_or-drop}
use Rattle.std.specs.List.{slice_range}
use Rattle.cells.specs.Cells.{cell_at, word_at}

-- past the end all is zero
module _ (s : List ℕ) (at : ℕ) (past : length s ≤ at) where
  pub no_cell : cell_at s at ≡ 0
  unfolding cell_at
  no_cell =
      let p1 : length s ≤ at + 1 = omega arith in
      let p2 : length s ≤ at + 2 = omega arith in
      let p3 : length s ≤ at + 3 = omega arith in
      rw (get_or-eq_default s 0 past, get_or-eq_default s 0 p1, get_or-eq_default s 0 p2, get_or-eq_default s 0 p3)

pub no_word : (s : List ℕ) (at : ℕ) → length s ≤ at → word_at s at ≡ 0
unfolding word_at
no_word s at h =
    let h4 : length s ≤ at + 4 = omega arith in
    rw (no_cell s at h, no_cell s (at + 4) h4)

-- the bytes from a place on are read as they are read behind the place
module _ (s : List ℕ) (at : ℕ) {rest : List ℕ} (e : rest ≡ slice_range s at (length s)) where
  byte-rest : (i : ℕ) → get_or rest i 0 ≡ get_or s (at + i) 0
  byte-rest i =
      let l : length (drop at s) ≤ length s - at = omega (arith, length-drop at s) in
      ap (λ (x : List ℕ). get_or x i 0) (e ∙ take_all (length s - at) (drop at s) l) ∙ get_or-drop at s i 0

  pub cell-rest : cell_at rest 0 ≡ cell_at s at
  unfolding cell_at
  cell-rest =
      let z : at + 0 ≡ at = omega arith in
      rw (byte-rest 0, byte-rest 1, byte-rest 2, byte-rest 3, z)

  pub next-rest : cell_at rest 4 ≡ cell_at s (at + 4)
  unfolding cell_at
  next-rest =
      let b5 : get_or rest 5 0 ≡ get_or s (at + 4 + 1) 0 = byte-rest 5 ∙ ap (λ (i : ℕ). get_or s i 0) (omega arith) in
      let b6 : get_or rest 6 0 ≡ get_or s (at + 4 + 2) 0 = byte-rest 6 ∙ ap (λ (i : ℕ). get_or s i 0) (omega arith) in
      let b7 : get_or rest 7 0 ≡ get_or s (at + 4 + 3) 0 = byte-rest 7 ∙ ap (λ (i : ℕ). get_or s i 0) (omega arith) in
      rw (byte-rest 4, b5, b6, b7)
