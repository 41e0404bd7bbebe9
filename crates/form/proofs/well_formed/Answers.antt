-- `form::well_formed` meets its contract. Assumes nothing.
use mathlib.Core.Path.{refl, ◌∙◌}
use native.Mathlib.Omega.{arith}
use lib.ListN.{length-take}
use Rattle.positions.specs.Below.{every}
use Rattle.positions.proofs.BelowLaws.{every_more}
use Rattle.form.proofs.FormedLaws.{fits-at, formed-many, formed-fail, formed-all}
use Rattle.record.specs.declared.Feature.{Feature}
use Rattle.form.proofs.well_formed.Goals as goal

pub returns-then-count-gt-MOST_FEATURES : goal.returns-then-count-gt-MOST_FEATURES
returns-then-count-gt-MOST_FEATURES c = formed-many _ (omega arith)

pub loop-i-init : goal.loop-i-init
unfolding every
loop-i-init c = refl

pub returns-then-not-fits : goal.returns-then-not-fits
returns-then-not-fits c = formed-fail _ c.loop-i.i (omega (arith, length-take {A = Feature})) (fits-at c.args.r _ (omega (arith, length-take {A = Feature})) c.fits.ensures ∙ c.if-not-fits.true)

pub loop-i-preserved : goal.loop-i-preserved
loop-i-preserved c = every_more c.loop-i.i _ c.loop-i.invariant (fits-at c.args.r _ (omega (arith, length-take {A = Feature})) c.fits.ensures ∙ c.if-not-fits.false)

pub returns : goal.returns
returns c = formed-all _ (omega (arith, length-take {A = Feature})) (omega arith) c.loop-i.invariant
