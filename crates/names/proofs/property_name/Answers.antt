-- `names::property_name` meets its contract. The loop's invariant: the characters passed may begin a property name, and what is left completes the whole. Assumes nothing.
use native.Mathlib.Omega.{arith}
use mathlib.Core.Path.{sym, ap, ◌∙◌}
use Prim.Native.Nat.{◌+◌, ◌<◌}
use borrow.Author.Tests.{eq-eqb, ne_eqb}
use Rattle.characters.specs.Characters.{is_property_character}
use Rattle.characters.proofs.Table.{property-class}
use Rattle.names.specs.Names.{name_outcome, property_name_at, is_property_name}
use Rattle.names.proofs.NameLaws.{no_name, property-none, property-more, property-stops, property-past}
use Rattle.names.proofs.property_name.Goals as goal
use Rattle.names.proofs.property_name.Goals.{then-c-eq0, else-c-eq0}

pub returns-in_err-room : goal.returns-in_err-room
unfolding property_name_at
returns-in_err-room c = ap name_outcome c.from_residual.ensures ∙ no_name is_property_name _ _ _ c.in_err-room.ensures

pub loop-length-init : goal.loop-length-init
loop-length-init c = property-none _ _ _

pub returns-then-not-is_property_entry : goal.returns-then-not-is_property_entry
returns-then-not-is_property_entry c =
    let l = c.loop-length in
    let room = c.in_ok-room.ensures in
    let byte = room.bytes l.length c.loop-length-test.true in
    let small : c.from.result < 256 = omega (arith, c.type_inv.s (c.args.from + l.length), byte, c.from.ensures) in
    let class = ap is_property_character (sym c.from.ensures) ∙ property-class small c.entries-table.ensures c.if-not-is_property_entry.ensures in
    let stops = property-stops l.invariant (omega (arith, room.long)) byte class (omega (arith, room.long)) in
    elim c.if-c-eq0.branch [
      | then-c-eq0 w ↦ rw (c.then_some.ensures, w.then_some-is) (rw (eq-eqb _ 0 w.if-c-eq0.true) at stops)
      | else-c-eq0 w ↦ rw (c.then_some.ensures, w.then_some-is, ne_eqb _ 0 w.if-c-eq0.false) (rw (ne_eqb _ 0 w.if-c-eq0.false) at stops)
    ]

pub loop-length-preserved : goal.loop-length-preserved
loop-length-preserved c =
    let l = c.loop-length in
    let room = c.in_ok-room.ensures in
    let byte = room.bytes l.length c.loop-length-test.true in
    let small : c.from.result < 256 = omega (arith, c.type_inv.s (c.args.from + l.length), byte, c.from.ensures) in
    let class = ap is_property_character (sym c.from.ensures) ∙ property-class small c.entries-table.ensures c.if-not-is_property_entry.ensures in
    property-more l.invariant (omega (arith, room.long)) byte class

pub returns : goal.returns
returns c = property-past c.loop-length.invariant (omega (arith, c.in_ok-room.ensures.long))
