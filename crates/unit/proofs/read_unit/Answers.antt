-- `unit::read_unit` meets its contract: what is read fits 32 bits. Assumes nothing.
use mathlib.Core.Path.{ap}
use native.Mathlib.Omega.{arith}
use Prim.Native.Nat.{ℕ}
use Rattle.std.proofs.lemmas.Result.{err_from_is_err_and}
use Rattle.refusal.specs.Refusal.{Outcome}
use Rattle.unit.specs.Unit.{read_unit}
use Rattle.unit.proofs.Reading.{at_most}
use Rattle.unit.proofs.read_unit.Goals as goal

pub returns-in_err-number : goal.returns-in_err-number
unfolding read_unit
returns-in_err-number c =
    let p = err_from_is_err_and c.from_residual.result c.from_residual.ensures.1 in rw (p.1, p.2) c.in_err-number.ensures

pub overflow_cast-result : goal.overflow_cast-result
overflow_cast-result c =
    omega (arith, ap (λ (o : Outcome ℕ). o.value) c.in_ok-number.ensures, at_most 4294967295 c.args.text.now)

pub returns : goal.returns
unfolding read_unit
returns c = c.in_ok-number.ensures
