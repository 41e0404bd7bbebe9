-- `reader::read_record` meets its contract. Assumes nothing.
use mathlib.Core.Path.{sym}
use native.Mathlib.Omega.{arith}
use Rattle.std.proofs.lemmas.Result.{err_from_is_err_and}
use Rattle.reading.proofs.WalkedLaws.{walked, walk-refused, after-accepted}
use Rattle.reader.proofs.read_record.Goals as goal

pub returns-in_err-layout : goal.returns-in_err-layout
returns-in_err-layout c =
    let p = err_from_is_err_and c.from_residual.result c.from_residual.ensures.1 in
    rw (p.1, p.2) (walk-refused _ _ c.in_err-layout.ensures)

pub invariant_of-read_container : goal.invariant_of-read_container
invariant_of-read_container c =
    let lies = (walked (sym c.in_ok-layout.ensures)).lies in
    record { inside = omega (arith, lies.end, lies.within) }

pub returns : goal.returns
returns c = after-accepted _ (sym c.in_ok-layout.ensures) c.read_container.ensures
