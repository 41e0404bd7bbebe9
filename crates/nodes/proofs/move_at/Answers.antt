-- `nodes::move_at` meets its contract. Assumes nothing.
use mathlib.Core.Path.{sym, ◌∙◌}
use mathlib.Core.Logic.{inl, inr}
use Rattle.nodes.proofs.BehindLaws.{next-by}
use Rattle.nodes.proofs.MoveLaws.{move-child, move-deeper, move-ended, move_up, move-property, move-nop, move-end, move-fault}
use Rattle.nodes.proofs.move_at.Goals as goal

pub returns-then-depth-eq0 : goal.returns-then-depth-eq0
returns-then-depth-eq0 c =
    move-child _ _ _ _ c.requires.0 c.requires.1 (sym c.step.ensures.value ∙ c.in-BeginNode.is)
    (c.unwrap_or-next.ensures ∙ next-by _ _ _ c.behind.ensures) c.if-depth-eq0.true

pub returns-else-depth-eq0 : goal.returns-else-depth-eq0
returns-else-depth-eq0 c =
    move-deeper _ _ _ _ c.requires.0 c.requires.1 (sym c.step.ensures.value ∙ c.in-BeginNode.is)
    (c.unwrap_or-next.ensures ∙ next-by _ _ _ c.behind.ensures) c.if-depth-eq0.false

pub returns-then-depth-eq0-2 : goal.returns-then-depth-eq0-2
returns-then-depth-eq0-2 c = move-ended _ _ _ _ c.requires.0 c.requires.1 (sym c.step.ensures.value ∙ c.in-EndNode.is) c.if-depth-eq0-2.true

pub returns-else-depth-eq0-2 : goal.returns-else-depth-eq0-2
returns-else-depth-eq0-2 c = move_up _ _ _ _ c.requires.0 c.requires.1 (sym c.step.ensures.value ∙ c.in-EndNode.is) c.if-depth-eq0-2.false

pub returns-in-Property : goal.returns-in-Property
returns-in-Property c = move-property _ _ _ _ c.requires.0 c.requires.1 (sym c.in-Property.ensures.value)

pub returns-in-Property-2 : goal.returns-in-Property-2
returns-in-Property-2 c = move-nop _ _ _ _ c.requires.0 c.requires.1 (sym c.in-Property.ensures.value)

pub returns-in-End : goal.returns-in-End
returns-in-End c =
    elim c.in-End.is [
      | inl w ↦ move-end _ _ _ _ c.requires.0 c.requires.1 (sym c.step.ensures.value ∙ w.1)
      | inr w ↦ move-fault _ _ _ _ c.requires.0 c.requires.1 (sym c.step.ensures.value ∙ w.1)
    ]
