-- `capi::resolver::yebkuzan_well_formed` meets its contract. Assumes nothing.
use mathlib.Core.Path.{sym, ◌∙◌}
use Rattle.capi.proofs.NumberLaws.{formed, not-formed}
use Rattle.capi.proofs.resolver.yebkuzan_well_formed.Goals as goal

pub returns-then-well_formed : goal.returns-then-well_formed
returns-then-well_formed c = formed _ (sym c.well_formed-2.ensures ∙ c.if-well_formed.true)

pub returns-else-well_formed : goal.returns-else-well_formed
returns-else-well_formed c = c.from.ensures ∙ not-formed _ (sym c.well_formed-2.ensures ∙ c.if-well_formed.false)
