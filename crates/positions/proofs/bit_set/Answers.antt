-- `positions::bit_set` meets its contract. Assumes nothing.
use mathlib.Core.Path.{sym, ◌∙◌}
use borrow.Author.Tests.{le-ltb}
use Rattle.positions.proofs.BitLaws.{bit_past}
use borrow.Author.Rules.{rules}
use Rattle.positions.proofs.bit_set.Goals as goal

pub returns-else-i-lt-WORD_BITS : goal.returns-else-i-lt-WORD_BITS
returns-else-i-lt-WORD_BITS c = le-ltb _ _ c.if-i-lt-WORD_BITS.false ∙ sym (bit_past _ 64 _ (search rules) c.if-i-lt-WORD_BITS.false)
