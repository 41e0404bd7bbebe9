-- `radix::encodings_of` meets its contract. The loop's invariant: the cells passed have their encodings in the row. Assumes nothing.
use native.Mathlib.Omega.{arith}
use Rattle.cells.proofs.Rows.{padded-each}
use Rattle.sizes.specs.Sizes.{most_sizes}
use Rattle.radix.specs.Radix.{no_encoding}
use Rattle.radix.proofs.encodings_of.Goals as goal

pub loop-i-preserved : goal.loop-i-preserved
loop-i-preserved c = let l = c.loop-i in rw l.invariant (padded-each most_sizes no_encoding _ l.i (omega arith))
