-- `nodes::behind` meets its contract. Assumes nothing.
use mathlib.Core.Path.{sym, ◌∙◌}
use native.Mathlib.Omega.{arith}
use Rattle.nodes.proofs.BehindLaws.{name-ends, behind-name, behind-unended}
use Rattle.nodes.proofs.behind.Goals as goal

pub returns-in_err-zero : goal.returns-in_err-zero
returns-in_err-zero c = c.from_residual.ensures ∙ behind-unended _ _ _ (sym c.text_end.ensures ∙ c.in_err-zero.was)

pub overflow_sub-result : goal.overflow_sub-result
overflow_sub-result c = let g = name-ends _ _ _ (sym c.text_end.ensures ∙ c.in_ok-zero.was) in omega (arith, g.long, g.within, c.well_formed)

pub overflow_mul-result : goal.overflow_mul-result
overflow_mul-result c = let g = name-ends _ _ _ (sym c.text_end.ensures ∙ c.in_ok-zero.was) in omega (arith, g.long, g.within, c.well_formed)

pub overflow_add-result-2 : goal.overflow_add-result-2
overflow_add-result-2 c = let g = name-ends _ _ _ (sym c.text_end.ensures ∙ c.in_ok-zero.was) in omega (arith, g.long, g.within, c.well_formed)

pub returns : goal.returns
returns c = behind-name _ _ _ (sym c.text_end.ensures ∙ c.in_ok-zero.was)
