-- `chain::write_chain` meets its contract. The loop: a part of the way is written, the rest leads on from the position at hand. Assumes nothing.
use native.Mathlib.Omega.{arith}
use Rattle.chain.proofs.WriteLaws.{write-begins, write_low, write-more, write-stops, write-ends}
use Rattle.chain.proofs.write_chain.Goals as goal

pub loop-place-init : goal.loop-place-init
loop-place-init c = write-begins _ _ _ (omega arith) c.requires.0 c.requires.1 c.requires.2

pub overflow_cast-out : goal.overflow_cast-out
overflow_cast-out c = omega (arith, write_low c.loop-place.invariant)

pub loop-place-preserved : goal.loop-place-preserved
loop-place-preserved c =
    write-more c.loop-place.invariant (omega arith) c.row.ensures c.lowest_outside.ensures c.in-Some.is

pub returns-in-None : goal.returns-in-None
returns-in-None c = write-stops c.loop-place.invariant (omega arith) c.row.ensures c.lowest_outside.ensures c.in-None.is

pub overflow_cast-out-2 : goal.overflow_cast-out-2
overflow_cast-out-2 c = omega (arith, write_low c.loop-place.invariant)

pub returns : goal.returns
returns c = write-ends c.loop-place.invariant (omega arith)
