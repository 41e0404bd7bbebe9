-- `stringlist::string_place` meets its contract. Assumes nothing.
use mathlib.Core.Path.{sym, ◌∙◌}
use Rattle.stringlist.proofs.OnlyLaws.{place-cut, place-stop}
use Rattle.stringlist.proofs.string_place.Goals as goal

pub returns-then-not-is_whole : goal.returns-then-not-is_whole
returns-then-not-is_whole c = place-cut _ _ (sym c.is_whole.ensures ∙ c.if-not-is_whole.true)

pub returns-in-Ok : goal.returns-in-Ok
returns-in-Ok c = place-stop _ _ (sym c.is_whole.ensures ∙ c.if-not-is_whole.false) c.in-Ok.ensures

pub returns-in-Err : goal.returns-in-Err
returns-in-Err c = place-stop _ _ (sym c.is_whole.ensures ∙ c.if-not-is_whole.false) c.in-Err.ensures
