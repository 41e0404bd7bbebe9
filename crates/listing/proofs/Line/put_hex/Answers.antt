use native.Mathlib.Omega.{arith}
use Rattle.listing.proofs.DigitLaws.{spell_begins, spell_more, spell_ends}
use Rattle.listing.proofs.Line.put_hex.Goals as goal

pub loop-place-init : goal.loop-place-init
loop-place-init c = spell_begins _ _ _ _ _ (omega arith)

pub loop-place-preserved : goal.loop-place-preserved
loop-place-preserved c = spell_more c.loop-place.invariant c.hex_digit.ensures (omega arith)

pub returns : goal.returns
returns c = spell_ends c.loop-place.invariant (omega arith)
