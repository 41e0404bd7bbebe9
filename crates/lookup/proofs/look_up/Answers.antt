-- `lookup::look_up` meets its contract. Assumes nothing.
use Rattle.std.specs.Prelude.{Err}
use mathlib.Core.Path.{◌≡◌}
use borrow.Author.Rules.{rules}
use Rattle.lookup.proofs.Finding.{own-refused, parent-refused, both_read}
use Rattle.lookup.proofs.look_up.Goals as goal

pub returns-in_err-in_cpu : goal.returns-in_err-in_cpu
returns-in_err-in_cpu c =
    let r : c.from_residual.result ≡ Err c.in_err-in_cpu.field-0.0 = search rules in
    rw r (own-refused _ _ _ _ _ c.in_err-in_cpu.ensures)

pub returns-in_err-in_parent : goal.returns-in_err-in_parent
returns-in_err-in_parent c =
    let r : c.from_residual-in_err-in_parent.result ≡ Err c.in_err-in_parent.field-0.0 = search rules in
    rw r (parent-refused _ _ _ _ c.in_ok-in_cpu.ensures _ c.in_err-in_parent.ensures)

pub returns-in-Some-default : goal.returns-in-Some-default
returns-in-Some-default c = rw c.in-Some-default.is-0 at (both_read _ _ _ _ c.in_ok-in_cpu.ensures c.in_ok-in_parent.ensures)

pub returns-in-None-Some : goal.returns-in-None-Some
returns-in-None-Some c = rw (c.in-None-Some.is-0, c.in-None-Some.is-1) at (both_read _ _ _ _ c.in_ok-in_cpu.ensures c.in_ok-in_parent.ensures)

pub returns-in-None-None : goal.returns-in-None-None
returns-in-None-None c = rw (c.in-None-None.is-0, c.in-None-None.is-1) at (both_read _ _ _ _ c.in_ok-in_cpu.ensures c.in_ok-in_parent.ensures)
