-- `enabled::enable` meets its contract. Assumes nothing.
use mathlib.Core.Path.{refl, sym, ap, ◌∙◌}
use Rattle.std.proofs.lemmas.Result.{err_from_is_err_and}
use Rattle.refusal.specs.Refusal.{answer}
use Rattle.refusal.proofs.Numbers.{numbered}
use Rattle.enabled.proofs.AnswerLaws.{sweep-refused, all-seen-enabled, enabled-answered, sweep-answered}
use Rattle.enabled.specs.Answers.{Members}
use Rattle.enabled.proofs.enable.Goals as goal

pub returns-in_err-x : goal.returns-in_err-x
returns-in_err-x c =
    let p = err_from_is_err_and c.from_residual.result c.from_residual.ensures.1 in
    rw (p.1, p.2) (sweep-refused _ _ _ c.in_err-x.ensures (numbered _) refl)

pub returns-then-subset : goal.returns-then-subset
returns-then-subset c =
    let seen = c.in_ok-x.ensures in
    enabled-answered _ _ _ seen refl (ap (λ (m : Members). answer m) c.counted.ensures)
    (all-seen-enabled _ _ _ seen refl refl c.below.ensures (sym c.subset.ensures ∙ c.if-subset.true))

pub returns : goal.returns
returns c = sweep-answered _ _ _ c.in_ok-x.ensures refl (ap (λ (m : Members). answer m) c.counted-2.ensures) refl c.closed_part.ensures
