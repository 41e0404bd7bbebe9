-- `nodes::value_within` meets its contract: what is left of the properties decides the whole. Assumes nothing.
use mathlib.Core.Path.{sym, ◌∙◌}
use native.Mathlib.Omega.{arith}
use Rattle.tokens.proofs.TokenList.{property-moves, nop-moves}
use Rattle.nodes.proofs.ValueLaws.{held-past, held-nop, held_none, held-other, held-here}
use Rattle.nodes.proofs.value_within.Goals as goal

pub returns-then-is_named : goal.returns-then-is_named
returns-then-is_named c =
    let l = c.loop-at.invariant in
    let e = sym c.step.ensures.value ∙ c.in-Property.is in
    held-here _ _ _ _ _ e c.is_named.ensures c.if-is_named.true l.0 ∙ l.1

pub loop-at-smaller-in-Property : goal.loop-at-smaller-in-Property
loop-at-smaller-in-Property c =
    let e = sym c.step.ensures.value ∙ c.in-Property.is in
    let m = property-moves _ _ _ e in
    omega arith

pub loop-at-preserved-in-Property : goal.loop-at-preserved-in-Property
loop-at-preserved-in-Property c =
    let l = c.loop-at.invariant in
    let e = sym c.step.ensures.value ∙ c.in-Property.is in
    (l.0, sym (held-other _ _ _ _ _ e c.is_named.ensures c.if-is_named.false) ∙ l.1)

pub loop-at-smaller : goal.loop-at-smaller
loop-at-smaller c =
    let e = sym c.step.ensures.value ∙ c.in-Nop.is in
    let m = nop-moves _ _ _ e in
    omega arith

pub loop-at-preserved : goal.loop-at-preserved
loop-at-preserved c =
    let l = c.loop-at.invariant in
    let e = sym c.step.ensures.value ∙ c.in-Nop.is in
    (l.0, sym (held-nop _ _ _ _ _ e) ∙ l.1)

pub returns-in_default : goal.returns-in_default
returns-in_default c =
    sym (held_none _ _ _ _ _ c.step.result c.step.ensures.value (λ p v l o n. c.in_default.not-Property p v l o n) (λ p n. c.in_default.not-Nop p n))
    ∙ c.loop-at.invariant.1

pub returns : goal.returns
returns c = sym (held-past _ _ _ _ _ (omega arith)) ∙ c.loop-at.invariant.1
