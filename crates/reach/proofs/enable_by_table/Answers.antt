-- `reach::enable_by_table` meets its contract. Assumes nothing.
use mathlib.Core.Path.{refl, ap}
use Rattle.std.proofs.lemmas.Result.{err_from_is_err_and}
use Rattle.refusal.specs.Refusal.{answer}
use Rattle.refusal.proofs.Numbers.{numbered}
use Rattle.enabled.specs.Answers.{Members}
use Rattle.reach.proofs.AnswerLaws.{table-refused, table-answered}
use Rattle.reach.proofs.enable_by_table.Goals as goal

pub returns-in_err-x : goal.returns-in_err-x
returns-in_err-x c =
    let p = err_from_is_err_and c.from_residual.result c.from_residual.ensures.1 in
    rw (p.1, p.2) (table-refused _ _ _ c.in_err-x.ensures (numbered _) refl _)

pub returns : goal.returns
returns c = table-answered _ _ _ c.in_ok-x.ensures refl (ap (λ (m : Members). answer m) c.counted.ensures) _ c.inside_rows.ensures
