-- `cells::word_at` meets its contract. Assumes nothing.
use Rattle.std.proofs.Common.{◌≡◌, ◌+◌, arith, sym, ◌∙◌}
use Rattle.cells.specs.Cells.{cell_at, word_at}
use Rattle.cells.proofs.Cells.{no_word, cell-rest, next-rest}
use Rattle.cells.proofs.word_at.Goals as goal

pub returns-in_default : goal.returns-in_default
returns-in_default c = sym (no_word _ _ (omega (arith, c.in_default.ensures.lookup)))

pub returns : goal.returns
unfolding word_at
returns c =
    let s = c.args.s.now in
    let at = c.args.at in
    let rest = c.in-Some.ensures.lookup.0.2 in
    let high : c.from-high.result ≡ cell_at s at = c.from-high.ensures ∙ c.cell_at.ensures ∙ cell-rest s at rest in
    let low : c.from-low.result ≡ cell_at s (at + 4) = c.from-low.ensures ∙ c.cell_at-2.ensures ∙ next-rest s at rest in
    omega arith
