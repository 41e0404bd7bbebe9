-- The invariant of `form::well_formed`: the features passed fit.
use mathlib.Core.Path.{◌≡◌}
use mathlib.Core.Bool.{true}
use Rattle.positions.specs.Below.{every}
use Rattle.form.specs.WellFormed.{feature_fits}
use Rattle.form.proofs.well_formed.Given as goal

abbrev pub invariant-loop-i : goal.invariant-loop-i
invariant-loop-i l = every l.i (feature_fits l.fn.r) ≡ true
