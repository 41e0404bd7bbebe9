-- `strings::text_end` meets its contract. Assumes nothing.
use native.Mathlib.Omega.{arith}
use mathlib.Core.Path.{◌∙◌}
use Rattle.strings.proofs.Strings.{no_text, text-ends}
use Rattle.strings.proofs.text_end.Goals as goal

pub returns-in_err-block : goal.returns-in_err-block
returns-in_err-block c = c.from_residual.ensures ∙ no_text c.args.s.now c.args.from c.args.end (omega (arith, c.in_err-block.ensures.lookup))

pub returns-in_err-length : goal.returns-in_err-length
returns-in_err-length c =
    let found = c.in_ok-block.ensures.lookup.0 in
    c.from_residual-in_err-length.ensures ∙ text-ends c.args.s.now c.args.from c.args.end c.min.ensures found.0 found.2 c.in_err-length.ensures

pub returns : goal.returns
returns c =
    let found = c.in_ok-block.ensures.lookup.0 in
    text-ends c.args.s.now c.args.from c.args.end c.min.ensures found.0 found.2 c.in_ok-length.ensures
