-- Laws of the bytes of a cell: they are bytes, and they are read back where they stand. Assumes nothing.
use mathlib.Core.Path.{◌≡◌, refl}
use mathlib.Core.List.{List, ◌∷◌}
use Prim.Native.Nat.{ℕ, suc, ◌+◌, ◌/◌, ◌%◌, ◌<◌, ◌≤◌}
use native.Mathlib.Omega.{arith}
use lib.ListN.{length, drop, get_or}
use lib.Seq.{drop-cons}
use Rattle.cells.specs.Cells.{cell_at}
use Rattle.cells.specs.Bytes.{IsByte, IsCell, cell_bytes, Each, Stands}
use Rattle.cells.proofs.Lists.{each-get}
use Rattle.cells.proofs.Standing.{stands_at, stands-bytes}

pub length-cell : (n : ℕ) → length (cell_bytes n) ≡ 4
unfolding cell_bytes
length-cell n = refl

pub stands-cell : (s : List ℕ) (at n : ℕ) → Stands s at (cell_bytes n) → cell_at s at ≡ n
unfolding cell_bytes cell_at
stands-cell s at n w =
    let z : at + 0 ≡ at = omega arith in
    let b0 : get_or s at 0 ≡ n / 16777216 = rw z at (stands_at s at (cell_bytes n) w 0 (omega arith)) in
    let b1 : get_or s (at + 1) 0 ≡ n / 65536 % 256 = stands_at s at (cell_bytes n) w 1 (omega arith) in
    let b2 : get_or s (at + 2) 0 ≡ n / 256 % 256 = stands_at s at (cell_bytes n) w 2 (omega arith) in
    let b3 : get_or s (at + 3) 0 ≡ n % 256 = stands_at s at (cell_bytes n) w 3 (omega arith) in
    omega arith

pub cell-in-bytes : (n : ℕ) → IsCell n → Each IsByte (cell_bytes n)
unfolding cell_bytes
cell-in-bytes n h = (omega arith, (omega arith, (omega arith, (omega arith, tt))))

pub cell-of-bytes : (n : ℕ) → Each IsByte (cell_bytes n) → IsCell n
unfolding cell_bytes
cell-of-bytes n h = omega arith

module _ (s : List ℕ) (bytes : Each IsByte s) where
  -- a cell that is read stands there
  pub cell-stands : (at n : ℕ) → at + 4 ≤ length s → cell_at s at ≡ n → Stands s at (cell_bytes n)
  unfolding cell_bytes cell_at Stands
  cell-stands at n h e =
      let b0 = each-get IsByte 0 s bytes at (omega arith) in
      let b1 = each-get IsByte 0 s bytes (at + 1) (omega arith) in
      let b2 = each-get IsByte 0 s bytes (at + 2) (omega arith) in
      let b3 = each-get IsByte 0 s bytes (at + 3) (omega arith) in
      let k0 : n / 16777216 ≡ get_or s at 0 = omega arith in
      let k1 : n / 65536 % 256 ≡ get_or s (at + 1) 0 = omega arith in
      let k2 : n / 256 % 256 ≡ get_or s (at + 2) 0 = omega arith in
      let k3 : n % 256 ≡ get_or s (at + 3) 0 = omega arith in
      rw (
        next at (at + 1) (omega arith) (omega arith),
        next (at + 1) (at + 2) (omega arith) (omega arith),
        next (at + 2) (at + 3) (omega arith) (omega arith),
        next (at + 3) (at + 4) (omega arith) (omega arith),
        k0,
        k1,
        k2,
        k3,
      )
    where
      next : (i j : ℕ) → suc i ≡ j → i < length s → drop i s ≡ get_or s i 0 ∷ drop j s
      next i j e h = rw (← e) (drop-cons s i 0 h)

  -- and it is one
  pub is-cell : (at : ℕ) → at + 4 ≤ length s → IsCell (cell_at s at)
  is-cell at h = cell-of-bytes (cell_at s at) (stands-bytes s at (cell_bytes (cell_at s at)) (cell-stands at (cell_at s at) h refl) bytes)
