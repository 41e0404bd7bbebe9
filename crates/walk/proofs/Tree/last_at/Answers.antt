-- `walk::Tree::last_at` meets its contract. The loop's invariant is `Outside`. Assumes nothing.
use mathlib.Core.Path.{sym, ◌∙◌}
use mathlib.Core.Logic.{inl, inr}
use native.Mathlib.Omega.{arith}
use Rattle.tokens.proofs.TokenList.{nop-moves}
use Rattle.walk.proofs.Outside.{outside-begins, outside-nop, end-room, last-accepted, last-early, last-begin, last-end-node, last-property, last-fault}
use Rattle.walk.proofs.Tree.last_at.Goals as goal

pub loop-next-init : goal.loop-next-init
loop-next-init c = outside-begins _ _ _ _

pub loop-next-smaller : goal.loop-next-smaller
loop-next-smaller c = let m = nop-moves _ _ _ (sym c.step.ensures.value ∙ c.in-Nop.is) in omega (arith, m.room, m.on)

pub loop-next-preserved : goal.loop-next-preserved
loop-next-preserved c = outside-nop c.loop-next.invariant (sym c.step.ensures.value ∙ c.in-Nop.is)

pub overflow_add-at : goal.overflow_add-at
overflow_add-at c = omega (arith, end-room _ _ _ (sym c.step.ensures.value ∙ c.in-End.is))

pub returns-in-End : goal.returns-in-End
returns-in-End c = rw c.at.ensures (last-early c.loop-next.invariant (sym c.step.ensures.value ∙ c.in-End.is) c.if-at-end.false)

pub returns-then-at-end : goal.returns-then-at-end
returns-then-at-end c = last-accepted c.loop-next.invariant (sym c.step.ensures.value ∙ c.in-End.is) c.if-at-end.true

pub returns-in-BeginNode : goal.returns-in-BeginNode
returns-in-BeginNode c =
    let l = c.loop-next.invariant in
    rw c.at-in-BeginNode.ensures
    (elim c.in-BeginNode.is [
      | inl h ↦ last-begin l (sym c.step.ensures.value ∙ h.1)
      | inr (inl h) ↦ last-end-node l (sym c.step.ensures.value ∙ h.1)
      | inr (inr (inl h)) ↦ last-property l (sym c.step.ensures.value ∙ h.4)
      | inr (inr (inr h)) ↦ last-fault l (sym c.step.ensures.value ∙ h)
    ])
