-- `attributes::bus_frequency` meets its contract. Assumes nothing.
use mathlib.Core.Path.{sym, ap, ◌∙◌}
use native.Mathlib.Omega.{arith}
use Rattle.refusal.proofs.Checks.{stops, passes, tests}
use Rattle.refusal.specs.Refusal.{answer, refuse}
use Rattle.attributes.specs.Attributes.{bus_frequency}
use Rattle.attributes.proofs.bus_frequency.Goals as goal

pub returns-then-value-ne8 : goal.returns-then-value-ne8
unfolding bus_frequency
returns-then-value-ne8 c = sym (stops (refuse 0) 0 0 _ _ (omega (arith, tests)))

pub returns : goal.returns
unfolding bus_frequency
returns c = ap answer c.word_at.ensures ∙ sym (passes (refuse 0) _ _ (omega (arith, tests)))
