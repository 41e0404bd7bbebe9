-- `form::many_fit` meets its contract. Assumes nothing.
use native.Mathlib.Omega.{arith}
use Rattle.form.proofs.FormedLaws.{slots-largest}
use Rattle.form.proofs.many_fit.Goals as goal

pub returns-then-largest_slot-count : goal.returns-then-largest_slot-count
returns-then-largest_slot-count c = slots-largest _ _ _ _ (omega arith) c.largest_slot.ensures c.if-largest_slot-count.true
