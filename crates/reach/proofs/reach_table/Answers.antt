-- `reach::reach_table` meets its contract. Assumes nothing.
use mathlib.Core.Path.{refl, ◌∙◌}
use Rattle.std.proofs.lemmas.Result.{err_from_is_err_and}
use Rattle.refusal.proofs.Numbers.{numbered}
use Rattle.tables.proofs.DependencyLaws.{table-most}
use Rattle.reach.proofs.AnswerLaws.{reach-refused, reach-answered}
use Rattle.reach.proofs.reach_table.Goals as goal

pub returns-in_err-x : goal.returns-in_err-x
returns-in_err-x c =
    let p = err_from_is_err_and c.from_residual.result c.from_residual.ensures.1 in
    rw (p.1, p.2) (reach-refused _ _ c.in_err-x.ensures (numbered _))

pub returns : goal.returns
returns c =
    let t = c.new.ensures in
    reach-answered _ _ c.in_ok-x.ensures refl t.n (t.words ∙ c.dependency_rows-rows.ensures ∙ table-most _ _ _ _ t.n) c.reach_rows.ensures
