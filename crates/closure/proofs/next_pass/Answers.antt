-- `closure::next_pass` meets its contract. The loop: what is not to do is seen. Assumes nothing.
use native.Mathlib.Omega.{arith}
use Rattle.closure.proofs.SlotLaws.{slots-in, slots-wider}
use Rattle.closure.proofs.PickLaws.{picked-member, picked_none}
use Rattle.closure.proofs.PassLaws.{looked-again, look-tested, looked-all, todo-within, todo-done, todo-less}
use Rattle.closure.proofs.next_pass.Goals as goal

pub loop-i-init : goal.loop-i-init
loop-i-init c = (looked-again _ _ c.empty.ensures _ _ c.requires, c.requires.low)

pub returns : goal.returns
returns c =
    let none = picked_none _ c.outermost.ensures c.in_default.is in
    looked-all _ _ _ c.loop-i.invariant.0 (λ j h. none j (omega (arith, c.args.g.few)))

pub loop-i-smaller : goal.loop-i-smaller
loop-i-smaller c =
    let picked = picked-member _ c.outermost.ensures c.in-Some.is in
    todo-less _ _ c.remove-todo.ensures picked.0 picked.1

pub loop-i-preserved : goal.loop-i-preserved
loop-i-preserved c =
    let few = c.args.g.few in
    let picked = picked-member _ c.outermost.ensures c.in-Some.is in
    let low = c.loop-i.invariant.1 _ picked.0 picked.1 in (
      look-tested _ _ (slots-wider _ _) few _ low _ _ c.loop-i.invariant.0 _
          (λ j h z ne. todo-done _ _ c.remove-todo.ensures j (omega (arith, few)) z ne) (slots-in _ _ _ (omega (arith, few)) c.dependencies.ensures _)
          c.tested-y.ensures,
      λ j h m. c.loop-i.invariant.1 j h (todo-within _ _ c.remove-todo.ensures j h m),
    )
