-- `attributes::check_descriptor` meets its contract. Assumes nothing.
use mathlib.Core.Path.{sym}
use native.Mathlib.Omega.{arith}
use Rattle.refusal.proofs.Checks.{passes, stops-with, tests}
use Rattle.refusal.specs.Checks.{fault_of}
use Rattle.attributes.specs.Attributes.{descriptor_checks}
use Rattle.attributes.proofs.check_descriptor.Goals as goal
use Rattle.attributes.proofs.check_descriptor.Goals.{then-length-eq0-via-then-length-eq0, then-length-eq0-via-else-length-eq0+then-length-gt-MOST_BYTES}

pub returns-then-left-lt2 : goal.returns-then-left-lt2
unfolding descriptor_checks
returns-then-left-lt2 c = stops-with 0 _ (omega (arith, tests))

pub returns-then-length-eq0 : goal.returns-then-length-eq0
unfolding descriptor_checks
returns-then-length-eq0 c =
    elim c.then-length-eq0.branch [
      | then-length-eq0-via-then-length-eq0 w ↦ stops-with 1 _ (omega (arith, tests))
      | then-length-eq0-via-else-length-eq0+then-length-gt-MOST_BYTES w ↦ stops-with 2 _ (omega (arith, tests))
    ]

pub returns-then-left-length : goal.returns-then-left-length
unfolding descriptor_checks
returns-then-left-length c = stops-with 3 _ (omega (arith, tests))

pub returns : goal.returns
unfolding fault_of descriptor_checks
returns c = sym (passes (λ n. n) _ 0 (omega (arith, tests)))
