-- `feature::given_word` meets its contract. Assumes nothing.
use native.Mathlib.Omega.{arith}
use Rattle.record.specs.Cells.{word_of_bits}
use Rattle.feature.proofs.given_word.Goals as goal

pub returns : goal.returns
unfolding word_of_bits
returns c = omega arith
