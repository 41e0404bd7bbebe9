-- `walk::Tree::child_item` meets its contract. Assumes nothing.
use Rattle.std.specs.Prelude.{Err}
use mathlib.Core.Path.{◌≡◌, sym, ap, ◌∙◌}
use native.Mathlib.Omega.{arith}
use borrow.Author.Rules.{rules}
use Rattle.names.specs.Names.{name_outcome}
use Rattle.names.proofs.NameLaws.{node-name-good}
use Rattle.properties.proofs.LookBack.{not-given}
use Rattle.walk.proofs.PartLaws.{child-named, child-read, child-bad}
use Rattle.walk.proofs.Tree.child_item.Goals as goal

pub returns-in_err-length : goal.returns-in_err-length
returns-in_err-length c =
    let n = not-given _ _ _ c.in_err-length.ensures.value in
    let r : c.from_residual.result ≡ Err c.in_err-length.field-0.0 = search rules in
    rw (r, n.1, c.at.ensures) (child-bad _ _ _ _ (sym c.node_name.ensures ∙ ap name_outcome n.0))

pub overflow_add-length : goal.overflow_add-length
overflow_add-length c = let g = node-name-good _ _ _ _ (child-named _ _ _ _ _ c.node_name.ensures c.in_ok-length.ensures.value) in omega (arith, c.well_formed)

pub next_multiple_of-requires-clause-fits : goal.next_multiple_of-requires-clause-fits
next_multiple_of-requires-clause-fits c = let g = node-name-good _ _ _ _ (child-named _ _ _ _ _ c.node_name.ensures c.in_ok-length.ensures.value) in omega (arith, c.well_formed)

pub overflow_add-result : goal.overflow_add-result
overflow_add-result c = let g = node-name-good _ _ _ _ (child-named _ _ _ _ _ c.node_name.ensures c.in_ok-length.ensures.value) in omega (arith, c.well_formed)

pub returns : goal.returns
returns c = child-read _ _ _ _ (child-named _ _ _ _ _ c.node_name.ensures c.in_ok-length.ensures.value) c.next_multiple_of.ensures.value
