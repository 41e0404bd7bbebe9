-- `listing::write_line` meets its contract.
use native.Mathlib.Omega.{arith}
use mathlib.Core.Path.{refl}
use Rattle.std.proofs.lemmas.Result.{err_from_is_err_and}
use Rattle.refusal.proofs.Numbers.{numbered}
use Rattle.listing.proofs.LineLaws.{line-short, write-none, write-short, write-all}
use Rattle.listing.proofs.write_line.Goals as goal

pub returns-in_err-compose : goal.returns-in_err-compose
returns-in_err-compose c =
    let p = err_from_is_err_and c.from_residual.result c.from_residual.ensures.1 in
    let w = write-none _ _ _ c.in_err-compose.ensures (numbered _) in
    rw (p.1, p.2) (record { result_value = w.0; out_after = w.1 })

pub returns-then-out-length : goal.returns-then-out-length
returns-then-out-length c =
    let w = write-short _ _ _ c.in_ok-compose.ensures refl refl c.if-out-length.true in
    record { result_value = w.0; out_after = w.1 }

pub overflow_cast-result : goal.overflow_cast-result
overflow_cast-result c = omega (arith, line-short c.in_ok-compose.ensures refl)

pub returns : goal.returns
returns c =
    let w = write-all _ _ _ c.in_ok-compose.ensures refl refl c.if-out-length.false c.copy_from_slice.ensures.after in
    record { result_value = w.0; out_after = w.1 }
