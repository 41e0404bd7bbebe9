-- A position is left out exactly when a chain of dependencies leads from it to an unpermitted one. Assumes nothing.
use Prim.Native.Nat.{ℕ, zero, suc, ◌+◌, ◌≤◌, ◌<◌}
use mathlib.Core.Path.{◌≡◌, refl, sym, ◌∙◌}
use mathlib.Core.Bool.{Bool, true, false}
use mathlib.Core.List.{List, [], ◌∷◌}
use mathlib.Core.Logic.{◌↔◌}
use native.Mathlib.Omega.{arith}
use lib.ListN.{length}
use Rattle.positions.proofs.BelowLaws.{every-fails}
use Rattle.closure.specs.Graph.{Below}
use Rattle.closure.specs.Enabled.{after_sweeps, enabled}
use Rattle.closure.specs.Chain.{Chain, end, link}
use Rattle.closure.proofs.Sweeps.{sweeps-not}
use Rattle.closure.proofs.Stable.{sweeps-more}

module _ (num : ℕ → ℕ) (dep : ℕ → ℕ → ℕ) (permitted : ℕ → Bool) where
  abbrev left : ℕ → ℕ → Bool
  left = after_sweeps num dep permitted

  -- a position that k sweeps leave out has a chain of at most k + 1 positions
  pub left-out-chain : (k i : ℕ) → after_sweeps num dep permitted k i ≡ false → (c : List ℕ) × (length c ≤ suc k) × Chain num dep permitted i c
  unfolding after_sweeps
  left-out-chain zero i e = (i ∷ [], omega arith, end e)
  left-out-chain (suc k) i e = go (permitted i) refl (λ j h. left-out-chain k (dep i j) h)
    where
      go : (b : Bool) → permitted i ≡ b → ((j : ℕ) → left k (dep i j) ≡ false → (c : List ℕ) × (length c ≤ suc k) × Chain num dep permitted (dep i j) c)
          → (c : List ℕ) × (length c ≤ suc (suc k)) × Chain num dep permitted i c
      go false q ih = (i ∷ [], omega arith, end q)
      go true q ih =
          let w = every-fails (num i) (λ j. left k (dep i j)) (cc) in
          let r = ih w.0 w.2 in
          (i ∷ r.0, omega (arith, r.1), link w.0 w.1 r.2)

  chain-positive : {i : ℕ} {c : List ℕ} → Chain num dep permitted i c → 0 < length c
  chain-positive (end e) = omega arith
  chain-positive (link j h c) = omega arith

  -- and back: a position with such a chain is left out by k sweeps
  pub chain-sweeps : {i : ℕ} {c : List ℕ} (k : ℕ) → Chain num dep permitted i c → length c ≤ suc k → after_sweeps num dep permitted k i ≡ false
  unfolding after_sweeps
  chain-sweeps zero (end e) h = e
  chain-sweeps (suc k) (end e) h = rw e
  chain-sweeps zero (link j l c) h = absurd (omega (arith, chain-positive c))
  chain-sweeps (suc k) (link {i = i} j l c) h = sweeps-not num dep permitted k i j l (chain-sweeps {i = dep i j} k c (omega arith))

  module _ (n : ℕ) (graph : Below n num dep) where
    pub chain-left-out : {i : ℕ} {c : List ℕ} → i < n → Chain num dep permitted i c → enabled num dep permitted n i ≡ false
    chain-left-out {i} {c} l ch = sym (sweeps-more num dep permitted n graph (n + length c) (omega arith) i l) ∙ chain-sweeps (n + length c) ch (omega arith)

    pub left-out-where : (i : ℕ) → i < n → enabled num dep permitted n i ≡ false ↔ ((c : List ℕ) × Chain num dep permitted i c)
    left-out-where i l = (λ e. let r = left-out-chain n i e in (r.0, r.2), λ r. chain-left-out l r.1)
