-- `properties::Properties::name_refusal` meets its contract. Assumes nothing.
use mathlib.Core.Path.{◌≡◌, sym, ap, ◌∙◌}
use borrow.Author.Rules.{rules}
use Rattle.refusal.specs.Refusal.{number_of, number_in}
use Rattle.names.specs.Names.{name_outcome}
use Rattle.properties.proofs.LookBack.{name-given, bad-fault, not-given, was-given}
use Rattle.properties.proofs.Properties.name_refusal.Goals as goal

pub returns-in_err-ok_or : goal.returns-in_err-ok_or
returns-in_err-ok_or c =
    let n = not-given _ _ _ c.in_err-ok_or.ensures.value in
    let r : number_in c.from_residual.result ≡ number_of c.in_err-ok_or.field-0.0 = search rules in
    r ∙ ap number_of n.1 ∙ bad-fault _ _ _ _ c.name_place-place.ensures _ (sym c.property_name.ensures ∙ ap name_outcome n.0)

pub returns : goal.returns
returns c =
    let n = was-given _ _ _ c.in_ok-ok_or.ensures.value in
    name-given _ _ _ _ c.name_place-place.ensures _ _ (sym c.property_name.ensures ∙ ap name_outcome n) c.repetition.ensures
