-- `walk::Tree::root_at` meets its contract. The loop's invariant is `Outside`. Assumes nothing.
use mathlib.Core.Path.{sym, ◌∙◌}
use mathlib.Core.Logic.{inl, inr}
use native.Mathlib.Omega.{arith}
use Rattle.tokens.proofs.TokenList.{nop-moves}
use Rattle.walk.proofs.Outside.{outside-begins, outside-nop, root-enters, root-room, root-stops, root-end-node, root-property, root-end, root-fault}
use Rattle.walk.proofs.Tree.root_at.Goals as goal

pub loop-next-init : goal.loop-next-init
loop-next-init c = outside-begins _ _ _ _

pub loop-next-smaller : goal.loop-next-smaller
loop-next-smaller c = let m = nop-moves _ _ _ (sym c.step.ensures.value ∙ c.in-Nop.is) in omega (arith, m.room, m.on)

pub loop-next-preserved : goal.loop-next-preserved
loop-next-preserved c = outside-nop c.loop-next.invariant (sym c.step.ensures.value ∙ c.in-Nop.is)

pub returns-then-not-root_name : goal.returns-then-not-root_name
returns-then-not-root_name c =
    rw c.at.ensures
    (root-stops c.loop-next.invariant (sym c.step.ensures.value ∙ c.in-BeginNode.is) c.root_name.ensures c.if-not-root_name.true)

pub overflow_add-result : goal.overflow_add-result
overflow_add-result c =
    omega (arith, root-room c.loop-next.invariant (sym c.step.ensures.value ∙ c.in-BeginNode.is) c.root_name.ensures c.if-not-root_name.false, c.well_formed)

pub returns-in-BeginNode : goal.returns-in-BeginNode
returns-in-BeginNode c =
    root-enters c.loop-next.invariant (sym c.step.ensures.value ∙ c.in-BeginNode.is) c.root_name.ensures c.if-not-root_name.false

pub returns-in-EndNode : goal.returns-in-EndNode
returns-in-EndNode c =
    let l = c.loop-next.invariant in
    rw c.at-in-EndNode.ensures
    (elim c.in-EndNode.is [
      | inl h ↦ root-end-node l (sym c.step.ensures.value ∙ h.1)
      | inr (inl h) ↦ root-property l (sym c.step.ensures.value ∙ h.4)
      | inr (inr (inl h)) ↦ root-end l (sym c.step.ensures.value ∙ h)
      | inr (inr (inr h)) ↦ root-fault l (sym c.step.ensures.value ∙ h)
    ])
