-- `walk::Tree::walk_tree` meets its contract. Assumes nothing.
use Rattle.std.specs.Prelude.{Err}
use mathlib.Core.Path.{◌≡◌}
use borrow.Author.Rules.{rules}
use Rattle.walk.proofs.Whole.{root-refused, contents-refused, all_closed}
use Rattle.walk.proofs.Tree.walk_tree.Goals as goal

pub returns-in_err-root : goal.returns-in_err-root
returns-in_err-root c =
    let r : c.from_residual.result ≡ Err c.in_err-root.field-0.0 = search rules in
    rw r (root-refused _ _ c.in_err-root.ensures)

pub returns-in_err-inner : goal.returns-in_err-inner
returns-in_err-inner c =
    let r : c.from_residual-in_err-inner.result ≡ Err c.in_err-inner.field-0.0 = search rules in
    rw r (contents-refused _ _ c.in_ok-root.ensures.1 c.in_err-inner.ensures)

pub returns : goal.returns
returns c = all_closed _ _ c.in_ok-root.ensures.1 c.in_ok-inner.ensures.1 c.closed_tree.ensures
