-- `properties::Properties::read_properties` meets its contract: the properties read so far, and that those left decide. Assumes nothing.
use mathlib.Core.Path.{◌≡◌, refl, sym, ap, ◌∙◌}
use native.Mathlib.Omega.{arith}
use lib.ListN.{length}
use borrow.Author.Rules.{rules}
use Rattle.std.proofs.lemmas.Result.{err_from_is_err_and}
use Rattle.refusal.specs.Refusal.{refused_at}
use Rattle.refusal.proofs.Numbers.{numbered}
use Rattle.tokens.proofs.TokenList.{property-moves, nop-moves}
use Rattle.properties.proofs.MarkLaws.{with-long}
use Rattle.properties.proofs.Placed.{was_ok, was_err}
use Rattle.properties.proofs.ReadLaws.{read-begins, read-nop, read-refused, read-property, read-begin, read-end-node, read-end, read-fault}
use Rattle.properties.proofs.Properties.read_properties.Goals as goal

pub loop-at-init : goal.loop-at-init
loop-at-init c = (refl, read-begins _ _ _ _ _)

pub returns-in_err-map_err-in-Property : goal.returns-in_err-map_err-in-Property
returns-in_err-map_err-in-Property c =
    let err = was_err _ c.marked_refusal-read.result c.map_err.result c.map_err.ensures.cases c.in_err-map_err-in-Property.was in
    let p = err_from_is_err_and c.from_residual.result c.from_residual.ensures.1 in
    let k = err.2 in
    let q : p.0 ≡ refused_at err.0 c.in-Property.at = p.2 ∙ search (rules, k) in
    let e = sym c.step.ensures.value ∙ c.in-Property.is in
    rw (p.1, q) (read-refused _ _ _ _ c.loop-at.invariant.1 e (rw err.1 at c.marked_refusal-read.ensures.result_value) (numbered err.0))

pub loop-at-smaller-in-Property-1 : goal.loop-at-smaller-in-Property-1
loop-at-smaller-in-Property-1 c = let m = property-moves _ _ _ (sym c.step.ensures.value ∙ c.in-Property.is) in omega arith

pub loop-at-preserved-in-Property-1 : goal.loop-at-preserved-in-Property-1
loop-at-preserved-in-Property-1 c =
    let l = c.loop-at.invariant in
    let e = sym c.step.ensures.value ∙ c.in-Property.is in
    let ok = was_ok _ c.marked_refusal-read.result c.map_err.result c.map_err.ensures.cases c.in_ok-map_err-in-Property.was in
    let m = c.marked_refusal-read.ensures in
    (l.0 ∙ sym (with-long _ _) ∙ sym (ap length m.marks_after), read-property _ _ _ _ l.1 e (rw ok at m.result_value) refl m.marks_after)

pub loop-at-smaller : goal.loop-at-smaller
loop-at-smaller c = let m = nop-moves _ _ _ (sym c.step.ensures.value ∙ c.in-Nop.is) in omega arith

pub loop-at-preserved : goal.loop-at-preserved
loop-at-preserved c =
    let l = c.loop-at.invariant in
    (l.0, read-nop _ _ _ _ l.1 (sym c.step.ensures.value ∙ c.in-Nop.is))

pub returns-in-BeginNode : goal.returns-in-BeginNode
returns-in-BeginNode c = read-begin _ _ _ _ c.loop-at.invariant.1 (sym c.in-BeginNode.ensures.value)

pub returns-in-BeginNode-2 : goal.returns-in-BeginNode-2
returns-in-BeginNode-2 c = read-end-node _ _ _ _ c.loop-at.invariant.1 (sym c.in-BeginNode.ensures.value)

pub returns-in-BeginNode-3 : goal.returns-in-BeginNode-3
returns-in-BeginNode-3 c = read-end _ _ _ _ c.loop-at.invariant.1 (sym c.in-BeginNode.ensures.value)

pub returns-in-BeginNode-4 : goal.returns-in-BeginNode-4
returns-in-BeginNode-4 c = read-fault _ _ _ _ c.loop-at.invariant.1 (sym c.in-BeginNode.ensures.value)
