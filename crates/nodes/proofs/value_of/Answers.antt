-- `nodes::value_of` meets its contract. Assumes nothing.
use mathlib.Core.Path.{sym, ap, ◌∙◌}
use native.Mathlib.Omega.{arith}
use Rattle.nodes.specs.Places.{held_in}
use Rattle.nodes.proofs.ValueLaws.{tokens-in, held-outside}
use Rattle.nodes.proofs.value_of.Goals as goal

pub returns-then-tree-b : goal.returns-then-tree-b
returns-then-tree-b c = held-outside _ _ _ _ (omega arith)

pub returns : goal.returns
returns c = c.value_within.ensures ∙ ap (held_in _) (sym (tokens-in _ _ _ (omega arith)))
