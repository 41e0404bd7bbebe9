-- `reader::tree::Contents::read_phandle` meets its contract. Assumes nothing.
use mathlib.Core.Path.{refl, sym, ◌∙◌}
use mathlib.Core.Logic.{inl, inr}
use Rattle.std.proofs.lemmas.Result.{err_from_is_err_and}
use Rattle.reader.proofs.PhandleLaws.{is-first}
use Rattle.reader.proofs.PhandleReadLaws.{phandle-refused, phandle-out, phandle-again, phandle-new}
use Rattle.reader.proofs.tree.Contents.read_phandle.Goals as goal

pub returns-in_err-phandle : goal.returns-in_err-phandle
returns-in_err-phandle c =
    let p = err_from_is_err_and c.from_residual.result c.from_residual.ensures.1 in
    rw (p.1, p.2) (phandle-refused (rw c.in_err-phandle.was at c.read_cell.ensures))

pub returns-then-phandle-eq0 : goal.returns-then-phandle-eq0
returns-then-phandle-eq0 c =
    let h = rw (c.in_ok-phandle.was, c.in-Some.is) at c.read_cell.ensures in
    elim c.then-phandle-eq0.either [ inl z ↦ phandle-out h (inl z) | inr w ↦ phandle-out h (inr w.1) ]

pub returns-then-is_some : goal.returns-then-is_some
returns-then-is_some c =
    let h = rw (c.in_ok-phandle.was, c.in-Some.is) at c.read_cell.ensures in
    phandle-again h c.if-phandle-eq0.false c.if-phandle.false _ _ (is-first _ _ c.carrier.ensures refl)
    (sym c.is_some.ensures ∙ c.if-is_some.true)

pub returns : goal.returns
returns c =
    let h = rw (c.in_ok-phandle.was, c.in-Some.is) at c.read_cell.ensures in
    phandle-new h c.if-phandle-eq0.false c.if-phandle.false _ _ (is-first _ _ c.carrier.ensures refl)
    (sym c.is_some.ensures ∙ c.if-is_some.false)
