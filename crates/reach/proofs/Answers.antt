-- Equal outcomes are equal answers, so that the promise decides the answer. Assumes nothing.
use Prim.Native.Nat.{ℕ}
use mathlib.Core.Path.{◌≡◌, ap}
use mathlib.Core.List.{List}
use Rattle.std.specs.Prelude.{Result, replicate}
use Rattle.refusal.proofs.Numbers.{same-outcome}
use Rattle.refusal.specs.declared.Refusal.{Refusal}
use Rattle.tables.specs.Tables.{table_words}
use Rattle.tables.specs.declared.Rows.{Rows}
use Rattle.reach.specs.Answers.{reach_outcome}

pub same-reach : (a b : Result Rows Refusal) → reach_outcome a ≡ reach_outcome b → a ≡ b
same-reach = same-outcome (λ (rows : Rows). rows.words) (replicate table_words 0) (λ a b e. ap (λ (l : List ℕ). record { words = l }) e)
