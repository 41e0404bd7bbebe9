-- `lookup::property_part` meets its contract: what was found lies within its block. Assumes nothing.
use Rattle.std.specs.Prelude.{Some}
use mathlib.Core.Path.{sym, ap, ◌∙◌}
use native.Mathlib.Omega.{arith}
use Rattle.lookup.proofs.ReturnedPart.{in-cpu, in-parent, cpu-part, parent-part, no_part}
use Rattle.lookup.proofs.property_part.Goals as goal

pub slice_bounds-result-count : goal.slice_bounds-result-count
slice_bounds-result-count c =
    let p = in-cpu _ _ _ _ (sym c.find_property.ensures ∙ c.in-Some-InCpu.is ∙ ap Some c.in-Some-InCpu.field-0-is) in
    omega (arith, p.head)

pub slice_bounds-result-start : goal.slice_bounds-result-start
slice_bounds-result-start c =
    let p = in-cpu _ _ _ _ (sym c.find_property.ensures ∙ c.in-Some-InCpu.is ∙ ap Some c.in-Some-InCpu.field-0-is) in
    omega (arith, p.head)

pub slice_bounds-result-end : goal.slice_bounds-result-end
slice_bounds-result-end c =
    let p = in-cpu _ _ _ _ (sym c.find_property.ensures ∙ c.in-Some-InCpu.is ∙ ap Some c.in-Some-InCpu.field-0-is) in
    omega (arith, p.within)

pub slice_bounds-result-count-in-Some-InParent : goal.slice_bounds-result-count-in-Some-InParent
slice_bounds-result-count-in-Some-InParent c =
    let p = in-parent _ _ _ _ (sym c.find_property.ensures ∙ c.in-Some-InParent.is ∙ ap Some c.in-Some-InParent.field-0-is) in
    omega (arith, p.head)

pub slice_bounds-result-start-in-Some-InParent : goal.slice_bounds-result-start-in-Some-InParent
slice_bounds-result-start-in-Some-InParent c =
    let p = in-parent _ _ _ _ (sym c.find_property.ensures ∙ c.in-Some-InParent.is ∙ ap Some c.in-Some-InParent.field-0-is) in
    omega (arith, p.head)

pub slice_bounds-result-end-in-Some-InParent : goal.slice_bounds-result-end-in-Some-InParent
slice_bounds-result-end-in-Some-InParent c =
    let p = in-parent _ _ _ _ (sym c.find_property.ensures ∙ c.in-Some-InParent.is ∙ ap Some c.in-Some-InParent.field-0-is) in
    omega (arith, p.within)

pub returns-in-Some-InCpu : goal.returns-in-Some-InCpu
returns-in-Some-InCpu c = cpu-part _ _ _ _ (sym c.find_property.ensures ∙ c.in-Some-InCpu.is ∙ ap Some c.in-Some-InCpu.field-0-is)

pub returns-in-Some-InParent : goal.returns-in-Some-InParent
returns-in-Some-InParent c = parent-part _ _ _ _ (sym c.find_property.ensures ∙ c.in-Some-InParent.is ∙ ap Some c.in-Some-InParent.field-0-is)

pub returns-in-None : goal.returns-in-None
returns-in-None c = no_part _ _ _ _ (sym c.find_property.ensures ∙ c.in-None.is)
