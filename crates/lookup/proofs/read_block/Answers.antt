-- `lookup::read_block` meets its contract. The loop's invariant: what is left of the block decides the whole, and the hit is that among
-- the properties read. Assumes nothing.
use Rattle.std.specs.Prelude.{Err}
use mathlib.Core.Path.{◌≡◌}
use native.Mathlib.Omega.{arith}
use borrow.Author.Rules.{rules}
use Rattle.lookup.proofs.Entries.{hit-here, hit_other, hit_stays}
use Rattle.lookup.proofs.Reading.{entry-is, reading_begins, reading-named, reading-skipped, reading-stops, reading-ends, named-moves, skip-moves}
use Rattle.lookup.proofs.read_block.Goals as goal
use Rattle.lookup.proofs.read_block.Goals.{else-is_none-via-then-is_none+else-is_named as not-named, else-is_none-via-else-is_none as found-before}

pub loop-cursor-init : goal.loop-cursor-init
loop-cursor-init c = reading_begins _ _ _

pub returns-in_err-offset : goal.returns-in_err-offset
returns-in_err-offset c =
    let r : c.from_residual.result ≡ Err c.in_err-offset.field-0.0 = search rules in
    rw r (reading-stops c.loop-cursor.invariant (omega arith) c.in_err-offset.ensures)

pub loop-cursor-smaller-then-is_named : goal.loop-cursor-smaller-then-is_named
loop-cursor-smaller-then-is_named c = let m = named-moves (entry-is c.in_ok-offset.ensures c.in-Named.is) in omega arith

pub loop-cursor-preserved-then-is_named : goal.loop-cursor-preserved-then-is_named
loop-cursor-preserved-then-is_named c =
    let e = entry-is c.in_ok-offset.ensures c.in-Named.is in
    reading-named c.loop-cursor.invariant (omega arith) e (hit-here _ _ c.in-Named.span c.if-is_none.ensures (rw c.whole-all.ensures at c.if-is_named.ensures))

pub loop-cursor-smaller-else-is_none : goal.loop-cursor-smaller-else-is_none
loop-cursor-smaller-else-is_none c = let m = named-moves (entry-is c.in_ok-offset.ensures c.in-Named.is) in omega arith

pub loop-cursor-preserved-else-is_none : goal.loop-cursor-preserved-else-is_none
loop-cursor-preserved-else-is_none c =
    let e = entry-is c.in_ok-offset.ensures c.in-Named.is in
    reading-named c.loop-cursor.invariant (omega arith) e
    (elim c.else-is_none.branch [
      | not-named w ↦ hit_other _ _ c.in-Named.span (rw c.whole-all.ensures at w.if-is_named.ensures)
      | found-before w ↦ hit_stays _ _ c.in-Named.span w.if-is_none.ensures
    ])

pub loop-cursor-smaller : goal.loop-cursor-smaller
loop-cursor-smaller c = let m = skip-moves (entry-is c.in_ok-offset.ensures c.in-Skip.is) in omega arith

pub loop-cursor-preserved : goal.loop-cursor-preserved
loop-cursor-preserved c = reading-skipped c.loop-cursor.invariant (omega arith) (entry-is c.in_ok-offset.ensures c.in-Skip.is)

pub returns : goal.returns
returns c = reading-ends c.loop-cursor.invariant (omega arith)
