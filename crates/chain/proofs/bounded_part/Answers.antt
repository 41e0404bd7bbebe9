-- `chain::bounded_part` meets its contract. The loop: the positions passed are gathered. Assumes nothing.
use mathlib.Core.Path.{refl, ap, ◌∙◌}
use native.Mathlib.Omega.{arith}
use Rattle.positions.specs.declared.Set.{Set}
use Rattle.chain.proofs.BoundedLaws.{slots-fit-is, bounded-none, bounded-in, bounded-out}
use Rattle.chain.proofs.bounded_part.Goals as goal
use Rattle.chain.proofs.bounded_part.Goals.{then-slots_fit, else-slots_fit}

pub loop-i-init : goal.loop-i-init
loop-i-init c = bounded-none _ _ _ c.args.g.few c.empty-set.ensures refl

pub loop-i-preserved : goal.loop-i-preserved
loop-i-preserved c =
    let inv = c.loop-i.invariant in
    let test = slots-fit-is _ _ _ _ (omega (arith, inv.few)) c.used.ensures c.slots_fit.ensures in
    elim c.if-slots_fit.branch [
      | then-slots_fit w ↦
          bounded-in _ _ _ _ inv c.loop-i-test.true test w.if-slots_fit.true (ap (λ (s : Set). s.words) w.set-is ∙ w.insert-set.ensures) w.used-is
      | else-slots_fit w ↦
          bounded-out _ _ _ _ inv c.loop-i-test.true test w.if-slots_fit.false (ap (λ (s : Set). s.words) w.set-is) w.used-is
    ]
