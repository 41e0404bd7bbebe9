-- Checks that all hold: those of a node among nodes in order, and of a dependency. Assumes nothing.
use mathlib.Core.Path.{◌≡◌, refl, sym, subst}
use mathlib.Core.Bool.{Bool, true, false, not}
use mathlib.Core.List.{List, [], ◌∷◌, ◌++◌, append-nil, append_assoc}
use Prim.Native.Nat.{ℕ, zero, suc, ◌<◌}
use native.Mathlib.Omega.{arith}
use lib.Dec.{T}
use lib.ListN.{length, get_or}
use Rattle.refusal.specs.Refusal.{Fault}
use Rattle.refusal.specs.Checks.{Check}
use Rattle.refusal.proofs.Checks.{Passes, passes-both}
use Rattle.nodes.specs.Nodes.{Node}
use Rattle.positions.specs.Below.{is_somewhere}
use Rattle.reading.specs.Features.{in_order}
use Rattle.reading.specs.Dependencies.{carrier, cell_checks, carrier_checks}
use Rattle.reading.specs.Accepted.{dependencies_of}

pub holds-true : (b : Bool) → T b → b ≡ true
holds-true true h = refl
holds-true false h = absurd h

pub holds-false : (b : Bool) → T (not b) → b ≡ false
holds-false true h = absurd h
holds-false false h = refl

-- the checks of one node, by the nodes before it
module _ (checks : List Node → Node → List (Check Fault)) where
  pub passes-order : (before xs : List Node) (n : Node) (ys : List Node) → Passes (in_order checks before (xs ++ n ∷ ys)) → Passes (checks (before ++ xs) n)
  unfolding in_order
  passes-order before [] n ys h =
      subst (λ (l : List Node). Passes (checks l n)) (sym (append-nil before)) (passes-both (checks before n) (in_order checks (before ++ n ∷ []) ys) h).0
  passes-order before (x ∷ xs) n ys h =
      let r = (passes-both (checks before x) (in_order checks (before ++ x ∷ []) (xs ++ n ∷ ys)) h).1 in
      subst (λ (l : List Node). Passes (checks l n)) (append_assoc before (x ∷ []) xs) (passes-order (before ++ x ∷ []) xs n ys r)

-- the phandles that a node names
pub passes-cell : (at : ℕ) (features : List Node) (ps : List ℕ) (j : ℕ) → j < length ps → Passes (cell_checks at features ps) → is_somewhere (carrier features (get_or ps j 0)) ≡ true
unfolding cell_checks
passes-cell at features [] j l h = absurd (omega arith)
passes-cell at features (p ∷ ps) zero l h = holds-true _ h.0
passes-cell at features (p ∷ ps) (suc j) l h = passes-cell at features ps j (omega arith) h.1

pub passes-carriers : (features xs : List Node) (n : Node) (ys : List Node) → Passes (carrier_checks features (xs ++ n ∷ ys))
    → Passes (cell_checks n.at features (dependencies_of n))
unfolding carrier_checks
passes-carriers features [] n ys h = (passes-both (cell_checks n.at features (dependencies_of n)) (carrier_checks features ys) h).0
passes-carriers features (x ∷ xs) n ys h =
    passes-carriers features xs n ys (passes-both (cell_checks x.at features (dependencies_of x)) (carrier_checks features (xs ++ n ∷ ys)) h).1
