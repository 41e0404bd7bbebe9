-- `capi::text::yebkuzan_write_unit` meets its contract. Assumes nothing.
use native.Mathlib.Omega.{arith}
use Rattle.capi.proofs.UnitLaws.{length-short}
use Rattle.capi.proofs.text.yebkuzan_write_unit.Goals as goal

pub overflow_cast-result : goal.overflow_cast-result
overflow_cast-result c = omega (arith, length-short _ _ (omega arith) c.in-Ok.ensures.result_value)
