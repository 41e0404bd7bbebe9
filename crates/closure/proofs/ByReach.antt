-- The enabled set by the reach table is the enabled set by the sweep. Assumes nothing.
use Prim.Native.Nat.{ℕ, ◌≤◌, ◌<◌}
use mathlib.Core.Path.{◌≡◌, refl, sym, ◌∙◌}
use mathlib.Core.Bool.{Bool, true, false, not, ◌||◌}
use native.Mathlib.Omega.{arith}
use Rattle.positions.proofs.BelowLaws.{no_way, every_of, every-not}
use Rattle.closure.specs.Graph.{Below}
use Rattle.closure.specs.Enabled.{enabled}
use Rattle.closure.specs.Reach.{reach, enabled_by_reach}
use Rattle.closure.proofs.Chains.{left-out-chain, chain-left-out}
use Rattle.closure.proofs.Reach.{chain-needs, needs-chain, reach-needs, needs-below, needs-reach}

or-true : (b : Bool) → b || true ≡ true
or-true true = refl
or-true false = refl

-- rows of m positions, the first n of which are those of the graph
module _ (num : ℕ → ℕ) (dep : ℕ → ℕ → ℕ) (permitted : ℕ → Bool) (n : ℕ) (graph : Below n num dep) (m : ℕ) (fits : n ≤ m) where
  abbrev allowed : ℕ → ℕ → Bool
  allowed i t = not (reach num dep n i t) || permitted t

  pub by-reach : (i : ℕ) → i < n → enabled_by_reach (reach num dep n) permitted m i ≡ enabled num dep permitted n i
  by-reach i l = go (enabled num dep permitted n i) refl
    where
      go : (b : Bool) → enabled num dep permitted n i ≡ b → enabled_by_reach (reach num dep n) permitted m i ≡ enabled num dep permitted n i
      go true e = every_of m (allowed i) (λ t h. each t (permitted t) refl (reach num dep n i t) refl) ∙ sym e
        where
          each : (t : ℕ) (p : Bool) → permitted t ≡ p → (r : Bool) → reach num dep n i t ≡ r → allowed i t ≡ true
          each t true q r f = rw q (or-true (not (reach num dep n i t)))
          each t false q false f = rw f
          each t false q true f =
              no_way (enabled num dep permitted n i) e
              (chain-left-out num dep permitted n graph l (needs-chain num dep permitted (reach-needs num dep n i t f) q).1)
      go false e =
          let c = left-out-chain num dep permitted n i e in
          let r = chain-needs num dep permitted c.2 in
          let b = needs-below num dep n graph r.1 l in
          every-not m (allowed i) r.0 (omega arith) (rw (needs-reach num dep n graph i r.0 l r.1, r.2)) ∙ sym e
