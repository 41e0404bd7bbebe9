-- What is asked of a position before its chain is told: where two ways ask the same of it, they end alike. Assumes nothing.
use Prim.Native.Nat.{ℕ, ◌<◌}
use mathlib.Core.Path.{◌≡◌, ap}
use mathlib.Core.Bool.{Bool, false, not}
use mathlib.Core.List.{List, [], ◌∷◌}
use borrow.Author.Tests.{ltb-true, not-true}
use lib.Dec.{leb, ltb}
use lib.ListN.{length}
use Rattle.refusal.specs.Checks.{check, first_fault}
use Rattle.refusal.proofs.Checks.{check-same}
use Rattle.chain.specs.Chain.{position_checks}

-- the chain told, or its bytes: enabled or not the same among equally many positions, and where it is not, the same chain
pub position-same : {A : Type 0} (refused : ℕ → A) (value : List ℕ → A) (m n i size : ℕ) (a b : Bool) (x y : List ℕ) → m ≡ n → (i < m → a ≡ b)
    → (i < m → a ≡ false → x ≡ y)
    → first_fault refused (position_checks m i a x size) (value x) ≡ first_fault refused (position_checks n i b y size) (value y)
position-same refused value m n i size a b x y e f g =
    check-same refused (ltb i m) (ltb i n) 16 _ _ _ _ (ap (ltb i) e)
    (λ low.
    let l = ltb-true i m low in
    check-same refused (not a) (not b) 17 _ _ _ _ (ap not (f l))
    (λ out. ap (λ (t : List ℕ). first_fault refused (check (leb (length t) size) 18 ∷ []) (value t)) (g l (not-true a out))))
