-- Laws of bytes that stand at a place: their parts, and bytes that are written there. Assumes nothing.
use mathlib.Core.Path.{◌≡◌, refl, sym, ap, subst, ◌∙◌}
use mathlib.Core.List.{List, [], ◌++◌}
use Prim.Native.Nat.{ℕ, ◌+◌, ◌<◌, ◌≤◌}
use native.Mathlib.Omega.{arith}
use lib.ListN.{length, take, drop, get_or, length-append, length-take, length-drop}
use lib.Seq.{take-add, take-take, take-append_seam, drop-append_seam, drop-drop, get_or-take, get_or-drop, length-take-le}
use Rattle.cells.specs.Buffer.{written}
use Rattle.cells.specs.Bytes.{IsByte, Each, Stands}
use Rattle.cells.proofs.Lists.{each_take, each-drop}

module _ (s : List ℕ) (at : ℕ) where
  pub stands-none : Stands s at []
  unfolding Stands
  stands-none = refl

  pub stands-take : (a : List ℕ) → Stands s at a → take (length a) (drop at s) ≡ a
  unfolding Stands
  stands-take a w = w

  pub stands-fits : (a : List ℕ) → Stands s at a → 0 < length a → at + length a ≤ length s
  unfolding Stands
  stands-fits a w h = omega (arith, ap length w, length-take (length a) (drop at s), length-drop at s)

  -- the first part, the part after it, and both
  pub stands-first : (a b : List ℕ) → Stands s at (a ++ b) → Stands s at a
  unfolding Stands
  stands-first a b w =
      let h : length a ≤ length (a ++ b) = omega (arith, length-append a b) in
      sym (take-take (length a) (length (a ++ b)) (drop at s) h) ∙ ap (take (length a)) w ∙ take-append_seam a b

  split : (a b : List ℕ) → Stands s at a → take (length (a ++ b)) (drop at s) ≡ a ++ take (length b) (drop (at + length a) s)
  unfolding Stands
  split a b w = rw (length-append a b, take-add (length a) (length b) (drop at s), w, drop-drop (length a) at s)

  pub stands-next : (a b : List ℕ) → Stands s at (a ++ b) → Stands s (at + length a) b
  unfolding Stands
  stands-next a b w =
      let e = sym (split a b (stands-first a b w)) ∙ w in
      sym (drop-append_seam a (take (length b) (drop (at + length a) s))) ∙ ap (drop (length a)) e ∙ drop-append_seam a b

  pub stands-join : (a b : List ℕ) → Stands s at a → Stands s (at + length a) b → Stands s at (a ++ b)
  unfolding Stands
  stands-join a b w v = split a b w ∙ ap (λ (x : List ℕ). a ++ x) v

  -- what stands at a place stands there
  pub stands-taken : (n : ℕ) → at + n ≤ length s → Stands s at (take n (drop at s))
  unfolding Stands
  stands-taken n h =
      let l : n ≤ length (drop at s) = omega (arith, length-drop at s) in
      ap (λ (k : ℕ). take k (drop at s)) (length-take-le n (drop at s) l)

  pub stands_at : (a : List ℕ) → Stands s at a → (i : ℕ) → i < length a → get_or s (at + i) 0 ≡ get_or a i 0
  unfolding Stands
  stands_at a w i h =
      sym (get_or-drop at s i 0) ∙ sym (get_or-take (length a) (drop at s) i 0 h) ∙ ap (λ (x : List ℕ). get_or x i 0) w

-- the same at a place that is given by another expression
pub stands_after : (s : List ℕ) (at next : ℕ) (a b : List ℕ) → at + length a ≡ next → Stands s at (a ++ b) → Stands s next b
stands_after s at next a b e w = subst (λ (p : ℕ). Stands s p b) e (stands-next s at a b w)

pub stands-joined : (s : List ℕ) (at next : ℕ) (a b : List ℕ) → at + length a ≡ next → Stands s at a → Stands s next b → Stands s at (a ++ b)
stands-joined s at next a b e w v = stands-join s at a b w (subst (λ (p : ℕ). Stands s p b) (sym e) v)

-- bytes in a row, and bytes that are written into a buffer
pub stands-between : (before a after : List ℕ) → Stands (before ++ (a ++ after)) (length before) a
unfolding Stands
stands-between before a after = ap (take (length a)) (drop-append_seam before (a ++ after)) ∙ take-append_seam a after

pub stands-written : (old : List ℕ) (at : ℕ) (new : List ℕ) → at ≤ length old → Stands (written old at new) at new
unfolding written
stands-written old at new h =
    subst (λ (p : ℕ). Stands (take at old ++ (new ++ drop (at + length new) old)) p new) (length-take-le at old h)
    (stands-between (take at old) new (drop (at + length new) old))

-- bytes that stand among bytes
pub stands-bytes : (s : List ℕ) (at : ℕ) (a : List ℕ) → Stands s at a → Each IsByte s → Each IsByte a
unfolding Stands
stands-bytes s at a w h = subst (Each IsByte) w (each_take IsByte (length a) (drop at s) (each-drop IsByte at s h))
