-- `attributes::pa_features` meets its contract. Assumes nothing.
use mathlib.Core.Path.{sym, ap, ◌∙◌}
use native.Mathlib.Omega.{arith}
use Rattle.std.proofs.lemmas.Result.{err_from_is_err_and}
use Rattle.refusal.specs.Refusal.{answer, refuse}
use Rattle.refusal.proofs.Checks.{stops, holds_on, tests}
use Rattle.attributes.specs.Attributes.{known_bytes, pa_table, pa_checks, no_attributes, pa_features}
use Rattle.attributes.proofs.Scan.{bytes-refused, bytes-used}
use Rattle.attributes.proofs.pa_features.Goals as goal

pub returns-then-edition-gt-EDITION_LATER : goal.returns-then-edition-gt-EDITION_LATER
unfolding pa_features pa_checks
returns-then-edition-gt-EDITION_LATER c = sym (stops (refuse no_attributes) 0 0 _ _ (omega (arith, tests)))

pub returns-in_err-bytes : goal.returns-in_err-bytes
unfolding pa_features pa_checks
returns-in_err-bytes c =
    let p = err_from_is_err_and c.from_residual.result c.from_residual.ensures.1 in
    rw (p.1, p.2)
    (bytes-refused no_attributes _ _ _ c.in_err-bytes.ensures.refusal
    ∙ sym (holds_on (refuse no_attributes) _ _ _ (omega (arith, tests))))

pub returns : goal.returns
unfolding pa_features pa_checks
returns c =
    ap answer (c.edition_attributes.ensures ∙ ap (λ b. pa_table (known_bytes c.args.edition b)) c.in_ok-bytes.ensures.used.0)
    ∙ bytes-used no_attributes _ _ c.in_ok-bytes.ensures.refusal
    ∙ sym (holds_on (refuse no_attributes) _ _ _ (omega (arith, tests)))
