-- `words::bit_where` meets its contract. Assumes nothing.
use native.Mathlib.Omega.{arith}
use Rattle.words.proofs.WordLaws.{bit_high}
use Rattle.words.proofs.bit_where.Goals as goal

pub returns-in_default : goal.returns-in_default
returns-in_default c = bit_high _ c.in-Some.is (omega arith)
