-- `stringlist::is_only_string` meets its contract. Assumes nothing.
use mathlib.Core.Path.{◌∙◌}
use native.Mathlib.Omega.{arith}
use borrow.Author.Tests.{ne_eqb}
use Rattle.stringlist.proofs.OnlyLaws.{first-within, only-more, only-last, only_none}
use Rattle.stringlist.proofs.is_only_string.Goals as goal

pub overflow_add-first : goal.overflow_add-first
overflow_add-first c = omega (arith, first-within _ _ c.in-Ok.ensures)

pub slice_bounds-same_bytes-count : goal.slice_bounds-same_bytes-count
slice_bounds-same_bytes-count c = omega (arith, first-within _ _ c.in-Ok.ensures)

pub slice_bounds-same_bytes-start : goal.slice_bounds-same_bytes-start
slice_bounds-same_bytes-start c = omega (arith, first-within _ _ c.in-Ok.ensures)

pub returns-then-first-list : goal.returns-then-first-list
returns-then-first-list c = c.same_bytes.ensures ∙ only-last _ _ c.in-Ok.ensures (omega arith)

pub returns-else-first-list : goal.returns-else-first-list
returns-else-first-list c =
    ne_eqb _ _ c.if-first-list.false ∙ only-more _ _ c.in-Ok.ensures (omega (arith, first-within _ _ c.in-Ok.ensures, c.if-first-list.false))

pub returns-in-Err : goal.returns-in-Err
returns-in-Err c = only_none _ _ c.in-Err.ensures
