-- `reach::reach_rows` meets its contract. The loop: the positions passed are let through. Assumes nothing.
use native.Mathlib.Omega.{arith}
use Rattle.reach.proofs.JoinLaws.{closes-none, closes-more, closes-all}
use Rattle.reach.proofs.reach_rows.Goals as goal

pub loop-k-init : goal.loop-k-init
loop-k-init c = closes-none _ _ (omega arith) _ c.with_selves-rows.ensures

pub loop-k-preserved : goal.loop-k-preserved
loop-k-preserved c = closes-more _ _ (omega arith) _ _ _ (omega arith) c.loop-k.invariant c.join.ensures

pub returns : goal.returns
returns c = closes-all _ _ (omega arith) _ _ (omega arith) c.loop-k.invariant
