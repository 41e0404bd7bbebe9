-- `closure::first_pass` meets its contract. The loop: the positions passed are seen. Assumes nothing.
use native.Mathlib.Omega.{arith}
use Rattle.closure.proofs.SlotLaws.{slots-in, slots-in-none, slots-wider}
use Rattle.closure.proofs.PassLaws.{looked-none, look-member, looked-all}
use Rattle.closure.proofs.first_pass.Goals as goal

pub loop-i-init : goal.loop-i-init
loop-i-init c = looked-none _ _ c.empty.ensures _

pub loop-i-preserved : goal.loop-i-preserved
loop-i-preserved c =
    let own = c.dependencies.ensures in
    look-member _ _ (slots-wider _ _) c.args.g.few _ (omega arith) _ _ c.loop-i.invariant _ (λ j h l ne. omega arith)
    (slots-in _ _ _ (omega arith) own _) (slots-in-none _ _ _ (omega arith) own) c.tested_member-x.ensures

pub returns : goal.returns
returns c = looked-all _ _ _ c.loop-i.invariant (λ j h. omega arith)
