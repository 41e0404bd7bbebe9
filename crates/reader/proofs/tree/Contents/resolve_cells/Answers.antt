-- `reader::tree::Contents::resolve_cells` meets its contract. Assumes nothing.
use mathlib.Core.Path.{◌≡◌}
use native.Mathlib.Omega.{arith}
use Rattle.std.specs.Prelude.{None, Some}
use Rattle.std.proofs.lemmas.Result.{err_from_is_err_and}
use Rattle.refusal.specs.declared.Refusal.TheVariants.{UnknownPhandle}
use Rattle.reader.proofs.PhandleLaws.{is-first}
use Rattle.reader.proofs.CellSlotLaws.{cells-begin, cells-resolved, cells-more, cells-fail}
use Rattle.reader.proofs.tree.Contents.resolve_cells.Goals as goal

pub loop-j-init : goal.loop-j-init
loop-j-init c = cells-begin _ _ _ _ _ _ _

pub returns-in_err-carrier : goal.returns-in_err-carrier
returns-in_err-carrier c =
    let none : c.carrier.result ≡ None = grind arith in
    let p = err_from_is_err_and c.from_residual.result c.from_residual.ensures.1 in
    let e : p.0 ≡ UnknownPhandle = grind arith in
    rw (p.1, e)
    (cells-fail _ _ _ _ _ _ _ c.loop-j.invariant (omega arith) c.cell_at-phandle.ensures (is-first _ _ c.carrier.ensures none))

pub overflow_cast-slots : goal.overflow_cast-slots
overflow_cast-slots c =
    let some : c.carrier.result ≡ Some c.in_ok-carrier.carrier = grind arith in
    let f = is-first _ _ c.carrier.ensures some in
    omega (arith, f.0)

pub loop-j-preserved : goal.loop-j-preserved
loop-j-preserved c =
    let some : c.carrier.result ≡ Some c.in_ok-carrier.carrier = grind arith in
    cells-more _ _ _ _ _ _ _ c.loop-j.invariant (omega arith) c.cell_at-phandle.ensures
    (is-first _ _ c.carrier.ensures some) (omega arith)

pub returns : goal.returns
returns c = cells-resolved _ _ _ _ _ _ _ c.loop-j.invariant (omega arith)
