-- `capi::tree::yebkuzan_read` meets its contract. Assumes nothing.
use native.Mathlib.Omega.{arith}
use Rattle.capi.proofs.PlaceLaws.{place-low}
use Rattle.capi.proofs.tree.yebkuzan_read.Goals as goal

pub overflow_cast-result : goal.overflow_cast-result
overflow_cast-result c = omega (arith, place-low _ c.in-Err.ensures)
