-- `permitted::permitted` meets its contract. Assumes nothing.
use Rattle.std.proofs.lemmas.Result.{err_from_is_err_and}
use Rattle.permitted.proofs.AskedLaws.{permitted-seen}
use Rattle.permitted.proofs.permitted.Goals as goal

pub returns-in_err-examine : goal.returns-in_err-examine
returns-in_err-examine c =
    let p = err_from_is_err_and c.from_residual.result c.from_residual.ensures.1 in rw (p.1, p.2) (permitted-seen _ _ _ c.in_err-examine.ensures)

pub returns : goal.returns
returns c = permitted-seen _ _ _ c.in_ok-examine.ensures
