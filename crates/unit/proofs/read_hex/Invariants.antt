-- The invariant of `unit::read_hex`.
use Rattle.unit.proofs.Reading.{Read}
use Rattle.unit.proofs.read_hex.Given as goal

abbrev pub invariant-loop-character : goal.invariant-loop-character
invariant-loop-character l = Read l.text l.value l.character-index
