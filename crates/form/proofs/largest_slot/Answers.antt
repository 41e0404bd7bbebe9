-- `form::largest_slot` meets its contract. Assumes nothing.
use native.Mathlib.Omega.{arith}
use Rattle.form.proofs.FormedLaws.{own-slot, length-own}
use Rattle.form.proofs.largest_slot.Goals as goal

pub returns : goal.returns
returns c = λ j h. omega (arith, own-slot c.args.slots.now 0 c.args.i 16 j h, length-own c.args.slots.now 0 c.args.i 16 (omega arith), c.loop-slot.invariant j (omega (arith, length-own c.args.slots.now 0 c.args.i 16 (omega arith))))
