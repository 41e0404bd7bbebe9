-- Among n positions, t is reached from i within n dependencies exactly when i needs t, directly or not, or is t. Assumes nothing.
use Prim.Native.Nat.{ℕ, zero, suc, ◌<◌}
use mathlib.Core.Path.{◌≡◌, refl, sym, ap, subst, ◌∙◌}
use mathlib.Core.Bool.{Bool, true, false, not, ◌&&◌, ◌||◌}
use mathlib.Core.List.{List, [], ◌∷◌}
use mathlib.Core.Logic.{◌↔◌}
use borrow.Author.Tests.{eqb-true, eq-eqb, not-true, not-false}
use lib.Dec.{eqb}
use Rattle.positions.specs.Below.{every}
use Rattle.positions.proofs.BelowLaws.{some-every}
use Rattle.closure.specs.Graph.{Below}
use Rattle.closure.specs.Enabled.{after_sweeps}
use Rattle.closure.specs.Chain.{Chain, end, link}
use Rattle.closure.specs.Reach.{Needs, self, via, reach}
use Rattle.closure.proofs.Chains.{left-out-chain, chain-left-out}

-- every position but one
abbrev all_but : ℕ → ℕ → Bool
all_but t x = not (eqb x t)

module _ (num : ℕ → ℕ) (dep : ℕ → ℕ → ℕ) where
  -- t is reached from i exactly where k sweeps leave i out when all positions but t are permitted
  reach-sweeps : (k i t : ℕ) → reach num dep k i t ≡ not (after_sweeps num dep (all_but t) k i)
  unfolding reach after_sweeps
  reach-sweeps zero i t = sym (not-not (eqb i t))
    where
      not-not : (b : Bool) → not (not b) ≡ b
      not-not true = refl
      not-not false = refl
  reach-sweeps (suc k) i t =
      rw (some-every (num i) (λ j. reach num dep k (dep i j) t) (λ j. after_sweeps num dep (all_but t) k (dep i j)) (λ j. reach-sweeps k (dep i j) t))
      (join (eqb i t) (every (num i) (λ j. after_sweeps num dep (all_but t) k (dep i j))))
    where
      join : (a b : Bool) → a || not b ≡ not (not a && b)
      join true b = refl
      join false b = refl

  -- a chain leads to an unpermitted position that is needed, and back
  module _ (permitted : ℕ → Bool) where
    pub chain-needs : {i : ℕ} {c : List ℕ} → Chain num dep permitted i c → (t : ℕ) × Needs num dep i t × (permitted t ≡ false)
    chain-needs (end {i = i} e) = (i, self, e)
    chain-needs (link j l c) = let r = chain-needs c in (r.0, via j l r.1, r.2)

    pub needs-chain : {i t : ℕ} → Needs num dep i t → permitted t ≡ false → (c : List ℕ) × Chain num dep permitted i c
    needs-chain (self {i = i}) e = (i ∷ [], end e)
    needs-chain (via {i = i} j l w) e = let r = needs-chain w e in (i ∷ r.0, link j l r.1)

  pub reach-needs : (k i t : ℕ) → reach num dep k i t ≡ true → Needs num dep i t
  reach-needs k i t e =
      let c = left-out-chain num dep (all_but t) k i (not-true (after_sweeps num dep (all_but t) k i) (sym (reach-sweeps k i t) ∙ e)) in
      let r = chain-needs (all_but t) c.2 in
      subst (Needs num dep i) (eqb-true r.0 t (not-false (eqb r.0 t) r.2)) r.1

  module _ (n : ℕ) (graph : Below n num dep) where
    pub needs-below : {i t : ℕ} → Needs num dep i t → i < n → t < n
    needs-below self l = l
    needs-below (via {i = i} j h w) l = needs-below w (graph.below i l j h)

    pub needs-reach : (i t : ℕ) → i < n → Needs num dep i t → reach num dep n i t ≡ true
    needs-reach i t l w =
        rw (reach-sweeps n i t, chain-left-out num dep (all_but t) n graph l (needs-chain (all_but t) w (ap not (eq-eqb t t refl))).1)

    pub reach-where : (i t : ℕ) → i < n → reach num dep n i t ≡ true ↔ Needs num dep i t
    reach-where i t l = (reach-needs n i t, needs-reach i t l)
