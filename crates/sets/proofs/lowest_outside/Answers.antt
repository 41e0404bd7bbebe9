-- `sets::lowest_outside` meets its contract. The loop: the words passed have no member of the first set outside the second. Assumes nothing.
use native.Mathlib.Omega.{arith}
use lib.Count.{trailing_le}
use Rattle.positions.proofs.SetCodeLaws.{word-list}
use Rattle.sets.proofs.LowestLaws.{word_outside, none-begins, none_more, lowest-found, lowest-none}
use borrow.Author.Rules.{rules}
use Rattle.sets.proofs.lowest_outside.Goals as goal

pub loop-w-init : goal.loop-w-init
loop-w-init c = none-begins _ _

pub overflow_cast-i : goal.overflow_cast-i
overflow_cast-i c =
    omega (arith, trailing_le 64 (word_outside c.args.a.words c.args.b.words c.loop-w.w))

pub overflow_add-i : goal.overflow_add-i
overflow_add-i c =
    omega (arith, trailing_le 64 (word_outside c.args.a.words c.args.b.words c.loop-w.w))

pub returns-then-outside-ne0 : goal.returns-then-outside-ne0
returns-then-outside-ne0 c =
    lowest-found _ _ (word-list _ (search rules) (λ v. search rules)) (word-list _ (search rules) (λ v. search rules))
    c.loop-w.invariant (omega arith) c.if-outside-ne0.true

pub loop-w-preserved : goal.loop-w-preserved
loop-w-preserved c = none_more _ _ (word-list _ (search rules) (λ v. search rules)) c.loop-w.invariant (omega arith) c.if-outside-ne0.false

pub returns : goal.returns
returns c = lowest-none c.loop-w.invariant (omega arith)
