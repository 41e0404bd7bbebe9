-- `properties::Properties::marked_refusal` meets its contract. Assumes nothing.
use mathlib.Core.Path.{◌≡◌, sym, ap, ◌∙◌}
use native.Mathlib.Omega.{arith}
use borrow.Author.Rules.{rules}
use Rattle.refusal.specs.Refusal.{number_of, number_in}
use Rattle.names.specs.Names.{name_outcome}
use Rattle.names.proofs.NameLaws.{property-name-good}
use Rattle.properties.proofs.LookBack.{bad-fault, not-given, was-given}
use Rattle.properties.proofs.MarkLaws.{cut-long, mark-read, mark-put, mark_set, mark-new, mark-none}
use Rattle.properties.proofs.Properties.marked_refusal.Goals as goal

pub returns-in_err-length : goal.returns-in_err-length
returns-in_err-length c =
    let n = not-given _ _ _ c.in_err-length.ensures.value in
    let e = sym c.property_name.ensures ∙ ap name_outcome n.0 in
    let q = c.name_place-place.ensures in
    let r : number_in c.from_residual.result ≡ number_of c.in_err-length.field-0.0 = search rules in
    record { result_value = r ∙ ap number_of n.1 ∙ bad-fault _ _ _ _ q _ e; marks_after = mark-none _ _ _ _ q _ e }

pub slice_bounds-mark_of-count : goal.slice_bounds-mark_of-count
slice_bounds-mark_of-count c =
    let g = property-name-good _ _ _ _ (sym c.property_name.ensures ∙ ap name_outcome (was-given _ _ _ c.in_ok-length.ensures.value)) in
    omega (arith, g.in_bytes)

pub slice_bounds-mark_of-start : goal.slice_bounds-mark_of-start
slice_bounds-mark_of-start c =
    let g = property-name-good _ _ _ _ (sym c.property_name.ensures ∙ ap name_outcome (was-given _ _ _ c.in_ok-length.ensures.value)) in
    omega (arith, g.in_bytes)

pub slice_bounds-mark_of-end-2 : goal.slice_bounds-mark_of-end-2
slice_bounds-mark_of-end-2 c =
    let g = property-name-good _ _ _ _ (sym c.property_name.ensures ∙ ap name_outcome (was-given _ _ _ c.in_ok-length.ensures.value)) in
    cut-long _ _ _ g.in_bytes

pub returns-then-set_mark : goal.returns-then-set_mark
returns-then-set_mark c =
    let e = sym c.property_name.ensures ∙ ap name_outcome (was-given _ _ _ c.in_ok-length.ensures.value) in
    let q = c.name_place-place.ensures in
    let m = mark-read _ _ _ _ q e c.mark_of.ensures in
    let s = c.set_mark.ensures in
    record { result_value = mark_set _ _ _ _ q e _ m _ _ s.0 c.if-set_mark.true c.repetition.ensures; marks_after = mark-put _ _ _ _ q e _ m s.1 }

pub returns-else-set_mark : goal.returns-else-set_mark
returns-else-set_mark c =
    let e = sym c.property_name.ensures ∙ ap name_outcome (was-given _ _ _ c.in_ok-length.ensures.value) in
    let q = c.name_place-place.ensures in
    let m = mark-read _ _ _ _ q e c.mark_of.ensures in
    let s = c.set_mark.ensures in
    record { result_value = mark-new _ _ _ _ q e _ m _ _ s.0 c.if-set_mark.false; marks_after = mark-put _ _ _ _ q e _ m s.1 }
