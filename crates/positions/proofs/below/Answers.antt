-- `positions::below` meets its contract. The loop: the words passed are those of the positions below the bound. Assumes nothing.
use native.Mathlib.Omega.{arith}
use Rattle.positions.proofs.SetCodeLaws.{word-list}
use Rattle.positions.proofs.FillLaws.{filled_none, filled_more, first-all}
use borrow.Author.Rules.{rules}
use Rattle.positions.proofs.below.Goals as goal

pub loop-w-init : goal.loop-w-init
loop-w-init c = filled_none _ _ (word-list _ (search rules) (λ v. search rules))

pub loop-w-preserved : goal.loop-w-preserved
loop-w-preserved c = filled_more _ _ _ _ c.loop-w.invariant (omega arith) (search rules) c.word_below.ensures

pub returns : goal.returns
returns c = first-all _ _ _ c.loop-w.invariant (omega arith)
