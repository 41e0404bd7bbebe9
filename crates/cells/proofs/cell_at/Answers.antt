-- `cells::cell_at` meets its contract: past the end it reads zeros. Assumes nothing.
use Rattle.std.proofs.Common.{◌≡◌, arith, sym, ◌∙◌, get_or}
use lib.ListN.{get_or-eq_default}
use Rattle.cells.specs.Cells.{cell_at}
use Rattle.cells.proofs.Cells.{no_cell, cell-rest}
use Rattle.cells.proofs.cell_at.Goals as goal

pub returns-in_default : goal.returns-in_default
returns-in_default c = sym (no_cell _ _ (omega (arith, c.in_default.ensures.lookup)))

pub returns-in-len4-up : goal.returns-in-len4-up
unfolding cell_at
returns-in-len4-up c =
    let e = c.in-Some.ensures.lookup.0.2 in
    let read : c.from_be_bytes-in-len4-up.result ≡ cell_at c.in-Some.rest.now 0 = omega arith in
    read ∙ cell-rest c.args.s.now c.args.at e

pub returns-in_default-rest : goal.returns-in_default-rest
unfolding cell_at
returns-in_default-rest c =
    let e = c.in-Some.ensures.lookup.0.2 in
    let last : get_or c.in-Some.rest.now 3 0 ≡ 0 = get_or-eq_default c.in-Some.rest.now 0 (omega arith) in
    let read : c.from_be_bytes.result ≡ cell_at c.in-Some.rest.now 0 = omega arith in
    read ∙ cell-rest c.args.s.now c.args.at e
