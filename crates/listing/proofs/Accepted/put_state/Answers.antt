-- `listing::Accepted::put_state` meets its contract.
use native.Mathlib.Omega.{arith}
use mathlib.Core.Path.{refl}
use lib.ListN.{length-take}
use Rattle.refusal.proofs.Numbers.{numbered}
use Rattle.listing.proofs.PutLaws.{put_then, put_as}
use Rattle.listing.proofs.StateLaws.{state-on, state-off}
use Rattle.listing.proofs.Accepted.put_state.Goals as goal

pub slice_bounds-positions-end : goal.slice_bounds-positions-end
slice_bounds-positions-end c =
    let told = c.in-Ok.ensures in
    let w = state-off c.args.self.now.read _ c.requires.0 c.all_granted.ensures _ _ _ refl told.result_value told.out_after refl in
    omega (arith, w.few)

pub slice_bounds-put_names-end : goal.slice_bounds-put_names-end
slice_bounds-put_names-end c =
    let told = c.in-Ok.ensures in
    let w = state-off c.args.self.now.read _ c.requires.0 c.all_granted.ensures _ _ _ refl told.result_value told.out_after refl in
    omega (arith, w.few, length-take c.in-Ok.length c.chain.new.out)

pub put_names-requires : goal.put_names-requires
put_names-requires c =
    let told = c.in-Ok.ensures in
    let w = state-off c.args.self.now.read _ c.requires.0 c.all_granted.ensures _ _ _ refl told.result_value told.out_after refl in
    (omega (arith, w.few, length-take c.in-Ok.length c.chain.new.out), w.low)

pub returns-in-Ok : goal.returns-in-Ok
returns-in-Ok c =
    let told = c.in-Ok.ensures in
    let w = state-off c.args.self.now.read _ c.requires.0 c.all_granted.ensures _ _ _ refl told.result_value told.out_after refl in
    put_as w.same (put_then c.put.ensures c.put_names.ensures)

pub returns-in-Err : goal.returns-in-Err
returns-in-Err c =
    let told = c.in-Err.ensures in
    put_as
    (state-on c.args.self.now.read _ c.requires.0 c.all_granted.ensures _ _ _ refl told.result_value told.out_after (numbered _))
    c.put-in-Err.ensures
