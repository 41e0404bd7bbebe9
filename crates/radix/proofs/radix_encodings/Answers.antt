-- `radix::radix_encodings` meets its contract. Assumes nothing.
use mathlib.Core.Path.{ap, ◌∙◌}
use Rattle.std.proofs.lemmas.Result.{err_from_is_err_and}
use Rattle.sizes.specs.Sizes.{no_sizes}
use Rattle.radix.specs.Radix.{no_encodings}
use Rattle.radix.proofs.Encodings.{outcome_in, encodings-read}
use Rattle.radix.proofs.radix_encodings.Goals as goal

pub returns-in_err-cells : goal.returns-in_err-cells
unfolding no_sizes no_encodings
returns-in_err-cells c =
    let p = err_from_is_err_and c.from_residual.result c.from_residual.ensures.1 in
    rw (p.1, p.2) (ap outcome_in c.in_err-cells.ensures ∙ encodings-read c.args.value.now)

pub returns : goal.returns
returns c = rw c.encodings_of.ensures (ap outcome_in c.in_ok-cells.ensures ∙ encodings-read c.args.value.now)
