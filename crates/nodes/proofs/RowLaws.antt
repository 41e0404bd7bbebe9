-- Rows of what each of some nodes gives. Assumes nothing.
use mathlib.Core.Path.{◌≡◌, refl, ap, ◌∙◌}
use mathlib.Core.List.{List, [], ◌∷◌, ◌++◌, map}
use Prim.Native.Nat.{ℕ, zero, suc, ◌-◌, ◌<◌}
use native.Mathlib.Omega.{arith}
use lib.ListN.{length, get_or, set, replicate, length-map, get_or-append}
use Rattle.cells.specs.Rows.{padded}
use Rattle.cells.proofs.Rows.{padded-more}
use Rattle.nodes.specs.Nodes.{Node, node_at}

module _ {A : Type 0} (f : Node → A) where
  -- one more
  map_more : (ns : List Node) (n : Node) → map f (ns ++ n ∷ []) ≡ map f ns ++ f n ∷ []
  map_more [] n = refl
  map_more (m ∷ ns) n = ap (λ (l : List A). f m ∷ l) (map_more ns n)

  pub row_more : (m : ℕ) (z : A) (ns : List Node) (n : Node) → length ns < m
      → set (padded m z (map f ns)) (length ns) (f n) ≡ padded m z (map f (ns ++ n ∷ []))
  row_more m z ns n h =
      let l = length-map ns f in rw (map_more ns n, ← l) (padded-more m z (map f ns) (f n) (omega arith))

  -- what a row has of the node at an index
  map_at : (z : A) (ns : List Node) (i : ℕ) → i < length ns → get_or (map f ns) i z ≡ f (node_at ns i)
  unfolding node_at
  map_at z [] i h = absurd (omega arith)
  map_at z (n ∷ ns) zero h = refl
  map_at z (n ∷ ns) (suc i) h = map_at z ns i (omega arith)

  pub row-node : (m : ℕ) (z : A) (ns : List Node) (i : ℕ) → i < length ns → get_or (padded m z (map f ns)) i z ≡ f (node_at ns i)
  row-node m z ns i h =
      let l : i < length (map f ns) = omega (arith, length-map ns f) in
      get_or-append (map f ns) (replicate (m - length (map f ns)) z) z i l ∙ map_at z ns i h
