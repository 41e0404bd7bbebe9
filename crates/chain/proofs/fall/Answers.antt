-- `chain::fall` meets its contract. The loop's invariant: the layers passed hold the position. Assumes nothing.
use mathlib.Core.Path.{refl, sym, ◌∙◌}
use Rattle.chain.proofs.FallLaws.{fall_begins, fall-more, fall-stays}
use borrow.Author.Rules.{rules}
use Rattle.chain.proofs.fall.Goals as goal

pub loop-k-init : goal.loop-k-init
loop-k-init c = fall_begins _ _ _ (search rules) c.args.table.few c.requires

pub returns-then-subset : goal.returns-then-subset
returns-then-subset c =
    let holds = sym c.member.ensures ∙ c.if-not-member.false in
    (refl, fall-stays _ _ c.loop-k.invariant c.layer-t.ensures (sym c.subset.ensures ∙ c.if-subset.true) holds)

pub loop-k-preserved : goal.loop-k-preserved
loop-k-preserved c = fall-more _ _ c.loop-k.invariant c.loop-k-test.true (sym c.member.ensures ∙ c.if-not-member.false) c.layer-t.ensures
