-- The invariant of `names::property_name`.
use Rattle.names.proofs.NameLaws.{PropertyPassed}
use Rattle.names.proofs.property_name.Given as goal

abbrev pub invariant-loop-length : goal.invariant-loop-length
invariant-loop-length l = PropertyPassed l.fn.s l.from l.end l.length
