-- The enabled set is the largest closed set of permitted positions, and the only one. Assumes nothing.
use Prim.Native.Nat.{ℕ, ◌<◌}
use mathlib.Core.Path.{◌≡◌, refl, sym, ◌∙◌}
use mathlib.Core.Bool.{Bool, true, false}
use native.Mathlib.Omega.{arith}
use Rattle.positions.proofs.BelowLaws.{no_way}
use Rattle.closure.specs.Graph.{Below}
use Rattle.closure.specs.Enabled.{enabled, Within, Closed, Largest}
use Rattle.closure.proofs.Sweeps.{sweeps-permitted, sweeps-dependencies, sweeps-largest}
use Rattle.closure.proofs.Stable.{stable}

-- two sets, each within the other, agree
within_both : (n : ℕ) (s t : ℕ → Bool) → Within n s t → Within n t s → (i : ℕ) → i < n → s i ≡ t i
within_both n s t f g i l = go (s i) refl (t i) refl
  where
    go : (a : Bool) → s i ≡ a → (b : Bool) → t i ≡ b → s i ≡ t i
    go true p b q = p ∙ sym (f i l p)
    go false p true q = no_way (s i) (g i l q) p
    go false p false q = p ∙ sym q

module _ (num : ℕ → ℕ) (dep : ℕ → ℕ → ℕ) (permitted : ℕ → Bool) (n : ℕ) (graph : Below n num dep) where
  pub enabled-permitted : Within n (enabled num dep permitted n) permitted
  enabled-permitted i l e = sweeps-permitted num dep permitted n i e

  pub enabled-closed : Closed n num dep (enabled num dep permitted n)
  enabled-closed i l e = sweeps-dependencies num dep permitted n i (stable num dep permitted n graph n (omega arith) i l ∙ e)

  pub enabled-holds-all : (s : ℕ → Bool) → Within n s permitted → Closed n num dep s → Within n s (enabled num dep permitted n)
  enabled-holds-all s f c = sweeps-largest num dep permitted n graph s f c n

  pub enabled-largest : Largest num dep permitted n (enabled num dep permitted n)
  enabled-largest = record { permitted_only = enabled-permitted; closed = enabled-closed; largest = enabled-holds-all }

-- two sets that are largest agree below n
pub largest-unique : (num : ℕ → ℕ) (dep : ℕ → ℕ → ℕ) (permitted : ℕ → Bool) (n : ℕ) (s t : ℕ → Bool)
    → Largest num dep permitted n s → Largest num dep permitted n t → (i : ℕ) → i < n → s i ≡ t i
largest-unique num dep permitted n s t a b =
    within_both n s t (b.largest s a.permitted_only a.closed) (a.largest t b.permitted_only b.closed)
