-- `permitted::examine` meets its contract. The loop's invariant: the features passed fit, and are seen. Assumes nothing.
use mathlib.Core.Path.{refl, ap, ◌∙◌}
use native.Mathlib.Omega.{arith}
use Rattle.positions.specs.declared.Set.{Set}
use Rattle.form.proofs.FormedLaws.{fits_bits, fits-few}
use Rattle.permitted.proofs.AskedLaws.{many-seen, seen_none, seen-not, seen_next, seen-level, seen_all}
use Rattle.permitted.proofs.examine.Goals as goal
use Rattle.permitted.proofs.examine.Goals.{then-is_permitted, else-is_permitted}

pub returns-then-n-gt-MOST_FEATURES : goal.returns-then-n-gt-MOST_FEATURES
returns-then-n-gt-MOST_FEATURES c = many-seen _ _ _ c.if-n-gt-MOST_FEATURES.true

pub loop-i-init : goal.loop-i-init
loop-i-init c = seen_none _ _ _ (omega arith) c.empty-set.ensures refl

pub returns-then-not-feature_fits : goal.returns-then-not-feature_fits
returns-then-not-feature_fits c =
    seen-not c.args.r _ _ c.loop-i.i c.loop-i.invariant c.loop-i-test.true c.feature_fits.ensures c.if-not-feature_fits.true

pub overflow_cast-counts : goal.overflow_cast-counts
overflow_cast-counts c =
    let few = fits-few _ _ _ _ c.feature_fits.ensures c.if-not-feature_fits.false in
    omega (arith, c.dependency_count.ensures)

pub is_permitted-requires : goal.is_permitted-requires
is_permitted-requires c = fits_bits _ _ _ _ c.feature_fits.ensures c.if-not-feature_fits.false

pub loop-i-preserved : goal.loop-i-preserved
loop-i-preserved c =
    let next = seen_next c.args.r _ _ c.loop-i.i c.loop-i.invariant c.loop-i-test.true c.feature_fits.ensures
    c.if-not-feature_fits.false c.dependency_count.ensures c.min-known.ensures c.is_permitted.ensures in
    elim c.if-is_permitted.branch [
      | then-is_permitted w ↦ next (rw w.if-is_permitted.true (ap (λ (s : Set). s.words) w.set-is ∙ w.insert-set.ensures))
      | else-is_permitted w ↦ next (rw w.if-is_permitted.false (ap (λ (s : Set). s.words) w.set-is))
    ]

pub returns-then-level-gt-HYPERVISOR : goal.returns-then-level-gt-HYPERVISOR
returns-then-level-gt-HYPERVISOR c = seen-level _ _ _ _ c.loop-i.invariant (omega arith) c.if-level-gt-HYPERVISOR.true

pub returns : goal.returns
returns c = seen_all _ _ _ _ c.loop-i.invariant (omega arith) (omega arith)
