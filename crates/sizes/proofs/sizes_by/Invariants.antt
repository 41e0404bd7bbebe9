-- The invariant of `sizes::sizes_by`.
use Rattle.sizes.proofs.Ascending.{Read}
use Rattle.sizes.proofs.sizes_by.Given as goal

abbrev pub invariant-loop-i : goal.invariant-loop-i
invariant-loop-i g l = Read g.rule l.value l.count l.exponents l.least l.i
