-- `characters::hex_digit` meets its contract. Assumes nothing.
use Rattle.characters.proofs.Digits.{digit_low, digit-high}
use Rattle.characters.proofs.hex_digit.Goals as goal

pub returns-then-value-lt10 : goal.returns-then-value-lt10
returns-then-value-lt10 c = digit_low _ c.if-value-lt10.true

pub returns-else-value-lt10 : goal.returns-else-value-lt10
returns-else-value-lt10 c = digit-high _ c.if-value-lt10.false
