-- `walk::Tree::closed_tree` meets its contract. Assumes nothing.
use Rattle.std.specs.Prelude.{Err}
use mathlib.Core.Path.{◌≡◌}
use borrow.Author.Rules.{rules}
use Rattle.walk.proofs.Whole.{closes}
use Rattle.walk.proofs.Tree.closed_tree.Goals as goal

pub returns-in_err-last_at : goal.returns-in_err-last_at
returns-in_err-last_at c =
    let r : c.from_residual.result ≡ Err c.in_err-last_at.field-0.0 = search rules in
    rw r (closes _ _ _ _ c.in_err-last_at.ensures)

pub returns : goal.returns
returns c = closes _ _ _ _ c.in_ok-last_at.ensures
