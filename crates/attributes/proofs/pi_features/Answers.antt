-- `attributes::pi_features` meets its contract. Assumes nothing.
use mathlib.Core.Path.{ap, ◌∙◌}
use mathlib.Core.List.{[]}
use Rattle.std.proofs.lemmas.Result.{err_from_is_err_and}
use Rattle.refusal.specs.Refusal.{answer}
use Rattle.attributes.specs.Attributes.{pi_features, pi_table}
use Rattle.attributes.proofs.Scan.{bytes-refused, bytes-used}
use Rattle.attributes.proofs.pi_features.Goals as goal

pub returns-in_err-bytes : goal.returns-in_err-bytes
unfolding pi_features
returns-in_err-bytes c =
    let p = err_from_is_err_and c.from_residual.result c.from_residual.ensures.1 in
    rw (p.1, p.2) (bytes-refused (pi_table []) _ _ _ c.in_err-bytes.ensures.refusal)

pub returns : goal.returns
unfolding pi_features
returns c =
    ap answer (c.raw_bytes.ensures ∙ ap pi_table c.in_ok-bytes.ensures.used.0)
    ∙ bytes-used (pi_table []) _ _ c.in_ok-bytes.ensures.refusal
