-- `properties::Properties::given` meets its contract: what is left of the look-back decides the whole. Assumes nothing.
use mathlib.Core.Path.{sym, ◌∙◌}
use native.Mathlib.Omega.{arith}
use Rattle.tokens.proofs.TokenList.{property-moves, nop-moves}
use Rattle.properties.proofs.LookBack.{none_before, before_same, before-other, before-nop, before-none}
use Rattle.properties.proofs.Properties.given.Goals as goal

pub returns-then-same_name : goal.returns-then-same_name
returns-then-same_name c =
    let e = sym c.step.ensures.value ∙ c.in-Property.is in
    before_same _ _ _ _ _ _ _ _ (omega arith) e c.name_place.ensures c.same_name.ensures c.if-same_name.true ∙ c.loop-cursor.invariant

pub loop-cursor-smaller-in-Property : goal.loop-cursor-smaller-in-Property
loop-cursor-smaller-in-Property c = let m = property-moves _ _ _ (sym c.step.ensures.value ∙ c.in-Property.is) in omega arith

pub loop-cursor-preserved-in-Property : goal.loop-cursor-preserved-in-Property
loop-cursor-preserved-in-Property c =
    let e = sym c.step.ensures.value ∙ c.in-Property.is in
    sym (before-other _ _ _ _ _ _ _ _ (omega arith) e c.name_place.ensures c.same_name.ensures c.if-same_name.false) ∙ c.loop-cursor.invariant

pub loop-cursor-smaller : goal.loop-cursor-smaller
loop-cursor-smaller c = let m = nop-moves _ _ _ (sym c.step.ensures.value ∙ c.in-Nop.is) in omega arith

pub loop-cursor-preserved : goal.loop-cursor-preserved
loop-cursor-preserved c = sym (before-nop _ _ _ _ _ _ (omega arith) (sym c.step.ensures.value ∙ c.in-Nop.is)) ∙ c.loop-cursor.invariant

pub returns-in_default : goal.returns-in_default
returns-in_default c =
    sym (before-none _ _ _ _ _ _ (omega arith) c.step.result (sym c.step.ensures.value) c.in_default.not-Property c.in_default.not-Nop) ∙ c.loop-cursor.invariant

pub returns : goal.returns
returns c = sym (none_before _ _ _ _ _ _ (omega arith)) ∙ c.loop-cursor.invariant
