-- `positions::word-below` meets its contract. Assumes nothing.
use native.Mathlib.Omega.{arith}
use Rattle.positions.proofs.FillLaws.{word-full, word-part}
use Rattle.positions.proofs.word_below.Goals as goal

pub returns-then-left-lt64 : goal.returns-then-left-lt64
returns-then-left-lt64 c = rw c.saturating_sub-left.ensures (word-part _ _ (omega arith))

pub returns-else-left-lt64 : goal.returns-else-left-lt64
returns-else-left-lt64 c = word-full _ _ (omega arith)
