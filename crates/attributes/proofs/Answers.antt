-- Equal outcomes are equal answers, so that each promise decides its answer. Assumes nothing.
use mathlib.Core.Path.{◌≡◌}
use mathlib.Core.List.{[]}
use Prim.Native.Nat.{ℕ}
use Rattle.std.specs.Prelude.{Result}
use Rattle.refusal.specs.declared.Refusal.{Refusal}
use Rattle.refusal.proofs.Numbers.{same-outcome}
use Rattle.attributes.specs.Attributes.{no_attributes, pi_table, pa_outcome, pi_outcome, bus_outcome}
use Rattle.attributes.specs.declared.PaTable.{PaTable}
use Rattle.attributes.specs.declared.PiTable.{PiTable}

pub same-pa : (a b : Result PaTable Refusal) → pa_outcome a ≡ pa_outcome b → a ≡ b
same-pa = same-outcome (λ t. t) no_attributes (λ a b e. e)

pub same-pi : (a b : Result PiTable Refusal) → pi_outcome a ≡ pi_outcome b → a ≡ b
same-pi = same-outcome (λ t. t) (pi_table []) (λ a b e. e)

pub same-bus : (a b : Result ℕ Refusal) → bus_outcome a ≡ bus_outcome b → a ≡ b
same-bus = same-outcome (λ n. n) 0 (λ a b e. e)
