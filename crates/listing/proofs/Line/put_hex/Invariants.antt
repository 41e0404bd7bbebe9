-- The digits from `place` on stand.
use Rattle.listing.proofs.DigitLaws.{Spelling}
use Rattle.listing.proofs.Line.put_hex.Given as goal

abbrev pub invariant-loop-place : goal.invariant-loop-place
invariant-loop-place l = Spelling 16 l.many l.number l.fn.self.length l.fn.self.bytes l.self.bytes l.rest l.place
