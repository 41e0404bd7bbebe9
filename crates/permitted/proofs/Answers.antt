-- Equal outcomes are equal answers, so that the promise decides the answer. Assumes nothing.
use mathlib.Core.Path.{◌≡◌, ap}
use mathlib.Core.List.{List}
use Prim.Native.Nat.{ℕ}
use Rattle.std.specs.Prelude.{Result}
use Rattle.refusal.proofs.Numbers.{same-outcome}
use Rattle.refusal.specs.declared.Refusal.{Refusal}
use Rattle.positions.specs.declared.Set.{Set}
use Rattle.positions.specs.Sets.{set_of, no_members}
use Rattle.permitted.specs.Asked.{Seen, seen_of, nothing_seen, examined_outcome, permitted_outcome}
use Rattle.permitted.specs.declared.Examined.{Examined}

pub same-examined : (a b : Result Examined Refusal) → examined_outcome a ≡ examined_outcome b → a ≡ b
same-examined =
    same-outcome seen_of nothing_seen (λ a b e. ap (λ (v : Seen). record { set = record { words = v.set }; counts = v.counts }) e)

pub same-permitted : (a b : Result Set Refusal) → permitted_outcome a ≡ permitted_outcome b → a ≡ b
same-permitted = same-outcome (λ (s : Set). s.words) (set_of no_members) (λ a b e. ap (λ (l : List ℕ). record { words = l }) e)
