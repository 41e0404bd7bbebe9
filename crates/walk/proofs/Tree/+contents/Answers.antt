-- `walk::Tree::contents`, which calls itself for each child, meets its contract. The loop's invariant is `Inside`; the levels left fall by one
-- at each call. Assumes nothing.
use Rattle.std.specs.Prelude.{Err}
use mathlib.Core.Path.{◌≡◌, sym}
use native.Mathlib.Omega.{arith}
use borrow.Author.Rules.{rules}
use Rattle.walk.proofs.Flow.{part-is, item-is, inside-begins, properties-stop, inside-skip, skip-moves, inside-close, inside-stop, inside-deep, inside-child, inside-child-stops, child-moves, inner-past, inner-stops, stops-with}
use Rattle.walk.proofs.Tree.+contents.Goals as goal

pub returns-in_err-at : goal.returns-in_err-at
returns-in_err-at t c =
    let r : c.from_residual.result ≡ Err c.in_err-at.field-0.0 = search rules in
    stops-with _ _ _ _ _ _ r (properties-stop _ c.args.self.now.blocks _ _ _ c.in_err-at.ensures)

pub loop-next-init : goal.loop-next-init
loop-next-init t c = (c.requires, inside-begins _ _ _ _ c.in_ok-at.ensures _)

pub returns-in_err-next : goal.returns-in_err-next
returns-in_err-next t c =
    let r : c.from_residual-in_err-next.result ≡ Err c.in_err-next.field-0.0 = search rules in
    stops-with _ _ _ _ _ _ r (inside-stop c.loop-next.invariant.1 (part-is _ _ _ (sym c.in_err-next.ensures)))

pub loop-next-smaller-in-Skip : goal.loop-next-smaller-in-Skip
loop-next-smaller-in-Skip t c = let m = skip-moves (item-is c.in_ok-next.ensures c.in-Skip.is) in omega arith

pub loop-next-preserved-in-Skip : goal.loop-next-preserved-in-Skip
loop-next-preserved-in-Skip t c =
    let l = c.loop-next.invariant in
    (l.0, inside-skip l.1 (item-is c.in_ok-next.ensures c.in-Skip.is))

pub returns-then-levels-eq0 : goal.returns-then-levels-eq0
returns-then-levels-eq0 t c =
    rw c.at.ensures (inside-deep c.loop-next.invariant.1 (item-is c.in_ok-next.ensures c.in-Child.is) (omega (arith, c.if-levels-eq0.true)))

pub noted-now-requires : goal.noted-now-requires
noted-now-requires t c = let m = child-moves (item-is c.in_ok-next.ensures c.in-Child.is) in m.2

pub returns-in_err-inner-in-Child : goal.returns-in_err-inner-in-Child
returns-in_err-inner-in-Child t c =
    let l = c.loop-next.invariant in
    let k = item-is c.in_ok-next.ensures c.in-Child.is in
    let w = inner-stops _ (omega (arith, c.if-levels-eq0.false)) l.0 _ c.args.self.now.blocks _ c.noted-now.result _ c.in_err-inner-in-Child.ensures in
    let r : c.from_residual-in_err-inner-in-Child.result ≡ Err c.in_err-inner-in-Child.field-0.0 = search rules in
    stops-with _ _ _ _ _ _ r (inside-child-stops l.1 (omega (arith, c.if-levels-eq0.false)) k w)

pub loop-next-smaller : goal.loop-next-smaller
loop-next-smaller t c =
    let l = c.loop-next.invariant in
    let m = child-moves (item-is c.in_ok-next.ensures c.in-Child.is) in
    let r = inner-past _ (omega (arith, c.if-levels-eq0.false)) l.0 _ _ _ _ _ c.in_ok-inner-in-Child.ensures in
    omega (arith, m.0, m.1, r.0)

pub loop-next-preserved : goal.loop-next-preserved
loop-next-preserved t c =
    let l = c.loop-next.invariant in
    let k = item-is c.in_ok-next.ensures c.in-Child.is in
    let r = inner-past _ (omega (arith, c.if-levels-eq0.false)) l.0 _ _ _ _ _ c.in_ok-inner-in-Child.ensures in
    (l.0, inside-child l.1 (omega (arith, c.if-levels-eq0.false)) k (omega (arith, l.0)) c.noted-now.ensures r.0 r.1)

pub returns-in-Close : goal.returns-in-Close
returns-in-Close t c = inside-close c.loop-next.invariant.1 (item-is c.in_ok-next.ensures c.in-Close.is)
