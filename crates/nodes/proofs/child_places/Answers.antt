-- `nodes::child_places` meets its contract: the children of the tokens left decide the whole. Assumes nothing.
use mathlib.Core.Path.{subst}
use Rattle.nodes.specs.Parts.{Moved}
use Rattle.nodes.proofs.GatherLaws.{gather-child, gather-past, gathered-over, gathered}
use Rattle.nodes.proofs.child_places.Goals as goal

pub returns-then-n-ge-MOST_FEATURES : goal.returns-then-n-ge-MOST_FEATURES
returns-then-n-ge-MOST_FEATURES c = gathered-over _ _ c.loop-at.invariant (subst (Moved _ _ _ _) c.in-Child.is c.move_at.ensures) c.if-n-ge-MOST_FEATURES.true

pub loop-at-preserved-in-Child : goal.loop-at-preserved-in-Child
loop-at-preserved-in-Child c = gather-child _ _ c.loop-at.invariant (subst (Moved _ _ _ _) c.in-Child.is c.move_at.ensures) c.if-n-ge-MOST_FEATURES.false

pub loop-at-preserved : goal.loop-at-preserved
loop-at-preserved c = gather-past _ _ c.loop-at.invariant (subst (Moved _ _ _ _) c.in-Past.is c.move_at.ensures)

pub returns : goal.returns
returns c = gathered _ _ c.loop-at.invariant c.loop-at-test.false
