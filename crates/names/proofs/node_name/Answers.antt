-- `names::node_name` meets its contract. The loop's invariant: the characters passed may begin a node name, as `split` and `fresh` say, and what is left completes the whole. Assumes nothing.
use native.Mathlib.Omega.{arith}
use mathlib.Core.Path.{sym, ap, ◌∙◌}
use lib.ListN.{length}
use Prim.Native.Nat.{◌+◌, ◌<◌, min}
use mathlib.Core.Logic.{inl, inr}
use Rattle.characters.specs.Characters.{is_node_character}
use Rattle.characters.proofs.Table.{node-class}
use Rattle.names.specs.Names.{name_outcome, node_name_at, is_node_name}
use Rattle.names.proofs.NameLaws.{no_name, node-none, node-more, node-sign, node-good, node-other, node-second, node-fresh, node-past}
use Rattle.names.proofs.node_name.Goals as goal
use Rattle.names.proofs.node_name.Goals.{then-is_node_entry, else-is_node_entry+else-fresh+else-c-eq0+else-split}

pub returns-in_err-room : goal.returns-in_err-room
unfolding node_name_at
returns-in_err-room c = ap name_outcome c.from_residual.ensures ∙ no_name is_node_name _ _ _ c.in_err-room.ensures

pub loop-length-init : goal.loop-length-init
loop-length-init c = node-none _ _ _

pub returns-then-fresh : goal.returns-then-fresh
returns-then-fresh c =
    let l = c.loop-length in
    let room = c.in_ok-room.ensures in
    let byte = room.bytes l.length c.loop-length-test.true in
    let small : c.from.result < 256 = omega (arith, c.type_inv.s (c.args.from + l.length), byte, c.from.ensures) in
    node-fresh l.invariant (omega (arith, room.long)) byte c.if-fresh.true
    (ap is_node_character (sym c.from.ensures) ∙ node-class small c.entries-table.ensures c.if-is_node_entry.ensures)

pub returns-then-c-eq0 : goal.returns-then-c-eq0
returns-then-c-eq0 c =
    let l = c.loop-length in
    let room = c.in_ok-room.ensures in
    node-good l.invariant (omega (arith, room.long)) (room.bytes l.length c.loop-length-test.true) c.if-fresh.false (omega (arith, room.long)) c.if-c-eq0.true

pub returns-then-split : goal.returns-then-split
returns-then-split c =
    let l = c.loop-length in
    let room = c.in_ok-room.ensures in
    let byte = room.bytes l.length c.loop-length-test.true in
    let inside : c.args.from + l.length < min (length c.args.s.now) c.args.end = omega (arith, room.long) in
    let small : c.from.result < 256 = omega (arith, c.type_inv.s (c.args.from + l.length), byte, c.from.ensures) in
    let class = ap is_node_character (sym c.from.ensures) ∙ node-class small c.entries-table.ensures c.if-is_node_entry.ensures in
    elim c.if-split.either [
      | inl other ↦ node-other l.invariant inside byte c.if-c-eq0.false other class
      | inr second ↦ node-second l.invariant inside byte second.0 second.1
    ]

pub loop-length-preserved : goal.loop-length-preserved
loop-length-preserved c =
    let l = c.loop-length in
    let room = c.in_ok-room.ensures in
    let byte = room.bytes l.length c.loop-length-test.true in
    let inside : c.args.from + l.length < min (length c.args.s.now) c.args.end = omega (arith, room.long) in
    let small : c.from.result < 256 = omega (arith, c.type_inv.s (c.args.from + l.length), byte, c.from.ensures) in
    elim c.if-is_node_entry.branch [
      | then-is_node_entry w ↦
          let class = ap is_node_character (sym c.from.ensures) ∙ node-class small c.entries-table.ensures w.if-is_node_entry.ensures in
          rw (w.split-is, w.fresh-is) (node-more l.invariant inside byte class)
      | else-is_node_entry+else-fresh+else-c-eq0+else-split w ↦
          rw (w.split-is, w.fresh-is) (node-sign l.invariant inside byte w.if-fresh.false w.if-split.false.0 w.if-split.false.1)
    ]

pub returns : goal.returns
returns c = node-past c.loop-length.invariant (omega (arith, c.in_ok-room.ensures.long))
