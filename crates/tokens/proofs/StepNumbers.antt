-- The number of a step is that of the first check of the token there. Assumes nothing.
use mathlib.Core.Path.{◌≡◌, refl, sym, ap}
use mathlib.Core.Bool.{Bool, true, false, not, ◌||◌}
use mathlib.Core.List.{List, [], ◌∷◌}
use Prim.Native.Nat.{ℕ, ◌+◌}
use native.Mathlib.Omega.{arith}
use borrow.Author.Tests.{le-leb, lt-leb, ne_eqb}
use lib.Dec.{leb, eqb}
use Rattle.refusal.specs.Checks.{check, first_fault, fault_of}
use Rattle.cells.specs.Cells.{cell_at}
use Rattle.tokens.specs.declared.Step.{Step}
use Rattle.tokens.specs.Steps.{padded, step_at, step_number, is_token_kind, token_checks}
use Rattle.tokens.proofs.Stepping.{step-none, step-begin, step-end-node, step-property, step-nop, step_end, step-unknown}
use Rattle.tokens.proofs.TokenList.{Is, begins, ends, holds, skips, stops, cut, unknown, none, view}

module _ (s : List ℕ) (stop at : ℕ) where
  decided : (a b c : Bool) → leb (at + 4) stop ≡ a → is_token_kind (cell_at s at) ≡ b
      → (not (eqb (cell_at s at) 3) || leb (at + 12 + padded (cell_at s (at + 4))) stop) ≡ c
      → fault_of (check a 6 ∷ check b 6 ∷ check c 6 ∷ []) ≡ fault_of (token_checks s stop at)
  unfolding token_checks
  decided a b c e k w = rw (e, k, w)

  pub step-number : step_number (step_at s stop at) ≡ fault_of (token_checks s stop at)
  unfolding fault_of first_fault
  step-number = go (view s stop at)
    where
      go : {x : Step} → Is s stop at x → step_number x ≡ fault_of (token_checks s stop at)
      go (begins r e) = decided true true true (le-leb (at + 4) stop r) (ap is_token_kind e) (rw e)
      go (ends r e) = decided true true true (le-leb (at + 4) stop r) (ap is_token_kind e) (rw e)
      go (holds r e) = decided true true true (le-leb (at + 4) stop (omega arith)) (ap is_token_kind e) (rw (e, le-leb (at + 12 + padded (cell_at s (at + 4))) stop r))
      go (skips r e) = decided true true true (le-leb (at + 4) stop r) (ap is_token_kind e) (rw e)
      go (stops r e) = decided true true true (le-leb (at + 4) stop r) (ap is_token_kind e) (rw e)
      go (cut r e k) = decided true true false (le-leb (at + 4) stop r) (ap is_token_kind e) (rw (e, lt-leb (at + 12 + padded (cell_at s (at + 4))) stop k))
      go (unknown r n1 n2 n3 n4 n9) =
          let k = cell_at s at in
          decided true false _ (le-leb (at + 4) stop r) (rw (ne_eqb k 1 n1, ne_eqb k 2 n2, ne_eqb k 3 n3, ne_eqb k 4 n4, ne_eqb k 9 n9)) refl
      go (none r) = decided false _ _ (lt-leb (at + 4) stop r) refl refl

  pub fault-step : fault_of (token_checks s stop at) ≡ step_number (step_at s stop at)
  fault-step = sym step-number

-- what a step is, by the bytes there, and its number
pub ruleset token_steps = (fault-step, step-none, step-begin, step-end-node, step-property, step-nop, step_end, step-unknown)
