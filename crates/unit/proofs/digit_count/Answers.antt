-- `unit::digit_count` meets its contract. The loop's invariant: the digits counted and those of what is left make up the number's.
-- Assumes nothing.
use mathlib.Core.Path.{◌≡◌, sym, ap}
use native.Mathlib.Omega.{arith}
use Prim.Native.Nat.{ℕ}
use lib.ListN.{length}
use Rattle.unit.proofs.Digits.{left, left-count, count-last, count-within}
use borrow.Author.Rules.{rules}
use Rattle.unit.proofs.digit_count.Goals as goal

pub loop-rest-init : goal.loop-rest-init
loop-rest-init c = (sym (omega (arith, count-last c.args.number)), search rules, omega arith)

pub overflow_add-count : goal.overflow_add-count
overflow_add-count c = omega (arith, count-within c.args.number (omega arith), left-count c.loop-rest.rest (omega arith))

pub loop-rest-preserved : goal.loop-rest-preserved
loop-rest-preserved c = (omega (arith, c.loop-rest.invariant.0, left-count c.loop-rest.rest (omega arith)), c.loop-rest.invariant.1, omega arith)

pub returns : goal.returns
returns c =
    let l = c.loop-rest in
    let z : l.rest ≡ 0 = omega arith in
    omega (arith, l.invariant.0, ap (λ (n : ℕ). length (left n)) z)
