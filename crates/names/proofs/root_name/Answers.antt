-- `names::root_name` meets its contract: the string is empty exactly when its first byte is zero. Assumes nothing.
use native.Mathlib.Omega.{arith}
use mathlib.Core.Path.{◌∙◌}
use borrow.Author.Tests.{le-ltb}
use Rattle.names.proofs.NameLaws.{root_none, root-here}
use Rattle.names.proofs.root_name.Goals as goal

pub returns-then-from-min : goal.returns-then-from-min
returns-then-from-min c = root-here _ _ _ (omega (arith, c.min.ensures))

pub returns-else-from-min : goal.returns-else-from-min
returns-else-from-min c = le-ltb _ _ c.if-from-min.false ∙ root_none _ _ _ (omega (arith, c.min.ensures))
