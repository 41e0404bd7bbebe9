-- `walk::check_tree` meets its contract. Assumes nothing.
use Rattle.std.specs.Prelude.{Err}
use mathlib.Core.Path.{◌≡◌, ◌∙◌}
use borrow.Author.Rules.{rules}
use Rattle.walk.proofs.Whole.{header_refused, header-accepted}
use Rattle.walk.proofs.check_tree.Goals as goal

pub returns-in_err-blocks : goal.returns-in_err-blocks
returns-in_err-blocks c =
    let r : c.from_residual.result ≡ Err c.in_err-blocks.field-0.0 = search rules in
    rw r (header_refused _ _ c.in_err-blocks.ensures)

pub returns : goal.returns
returns c = c.walk_tree.ensures ∙ header-accepted _ c.in_ok-blocks.ensures
