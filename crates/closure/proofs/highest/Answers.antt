-- `closure::highest` meets its contract. The loop: the words passed have no members. Assumes nothing.
use Prim.Native.Nat.{◌-◌}
use native.Mathlib.Omega.{arith}
use Rattle.positions.proofs.SetCodeLaws.{word-list}
use Rattle.closure.proofs.PickLaws.{none-from-end, none-from-next, top_small, picks-highest, picks-none}
use borrow.Author.Rules.{rules}
use Rattle.closure.proofs.highest.Goals as goal

pub loop-w-init : goal.loop-w-init
loop-w-init c = none-from-end _

pub bounds-s-w : goal.bounds-s-w
bounds-s-w c = omega (arith, c.loop-w.invariant.within)

pub overflow_mul-i : goal.overflow_mul-i
overflow_mul-i c = omega (arith, c.loop-w.invariant.within)

pub overflow_cast-i : goal.overflow_cast-i
overflow_cast-i c = omega (arith, top_small c.args.s.words (word-list _ (search rules) (λ v. search rules)) (c.loop-w.w - 1) c.if-word-ne0.true)

pub overflow_sub-i : goal.overflow_sub-i
overflow_sub-i c = omega (arith, top_small c.args.s.words (word-list _ (search rules) (λ v. search rules)) (c.loop-w.w - 1) c.if-word-ne0.true)

pub overflow_add-i : goal.overflow_add-i
overflow_add-i c = omega (arith, c.loop-w.invariant.within)

pub returns-then-word-ne0 : goal.returns-then-word-ne0
returns-then-word-ne0 c = picks-highest _ (word-list _ (search rules) (λ v. search rules)) _ (omega (arith, c.loop-w.invariant.within)) c.if-word-ne0.true

pub loop-w-preserved : goal.loop-w-preserved
loop-w-preserved c = none-from-next _ c.loop-w.invariant (omega arith) c.if-word-ne0.false

pub returns : goal.returns
returns c = picks-none _ (word-list _ (search rules) (λ v. search rules)) c.loop-w.invariant (omega arith)
