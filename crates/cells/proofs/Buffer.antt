-- Laws of a buffer that is written byte by byte. Assumes nothing.
use mathlib.Core.Path.{◌≡◌}
use mathlib.Core.List.{List, [], ◌∷◌, ◌++◌, append_assoc}
use Prim.Native.Nat.{ℕ, suc, ◌+◌, ◌<◌, ◌≤◌}
use native.Mathlib.Omega.{arith}
use native.Mathlib.Numerals.{add-one}
use lib.ListN.{get_or, length, take, drop, set, length-append, length-take, length-drop, take-append-drop}
use lib.Seq.{set_at, take-suc, length-take-le}
use Rattle.cells.specs.Buffer.{written}

module _ (old : List ℕ) where
  pub written_none : (at : ℕ) → written old at [] ≡ old
  unfolding written
  written_none at = let e : at + 0 ≡ at = omega arith in rw e (take-append-drop at old)

  pub length-written : (at : ℕ) (new : List ℕ) → at + length new ≤ length old → length (written old at new) ≡ length old
  unfolding written
  length-written at new h = simp (length-append, length-take, length-drop) (omega arith)

  -- one byte more in front of what is written
  pub written-before : (at b : ℕ) (new : List ℕ) → at < length old → set (written old (at + 1) new) at b ≡ written old at (b ∷ new)
  unfolding written
  written-before at b new h =
      let e : at + 1 + length new ≡ at + suc (length new) = omega arith in
      let l : at ≤ length old = omega arith in
      rw (e, add-one at, take-suc old at 0 h, append_assoc (take at old) (get_or old at 0 ∷ []))
      (set_at (take at old) (get_or old at 0) (new ++ drop (at + suc (length new)) old) b at (length-take-le at old l))
