-- `sets::subset` meets its contract. The loop: the words passed of the first set are within those of the second. Assumes nothing.
use mathlib.Core.Path.{sym}
use native.Mathlib.Omega.{arith}
use borrow.Author.Count.{below_more}
use Rattle.positions.proofs.SetCodeLaws.{word-list, subset-words, subset-not}
use borrow.Author.Rules.{rules}
use Rattle.sets.proofs.subset.Goals as goal

pub returns-then-word-b : goal.returns-then-word-b
returns-then-word-b c = sym (subset-not _ _ _ (word-list _ (search rules) (λ v. search rules)) (omega arith) c.if-word-b.true)

pub loop-w-preserved : goal.loop-w-preserved
loop-w-preserved c = (omega arith, below_more _ _ c.loop-w.invariant.1 c.if-word-b.false)

pub returns : goal.returns
returns c = sym (subset-words _ _ (λ v h. c.loop-w.invariant.1 v (omega arith)))
