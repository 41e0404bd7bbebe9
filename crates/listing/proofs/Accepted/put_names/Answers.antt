-- `listing::Accepted::put_names` meets its contract.
use native.Mathlib.Omega.{arith}
use mathlib.Core.Path.{ap, ◌∙◌}
use Rattle.listing.specs.Parts.{name_in}
use Rattle.listing.proofs.JoinLaws.{no-others, next-name, others-low, names-none, names-all}
use Rattle.listing.proofs.PutLaws.{put_none, put_then, put_as}
use Rattle.listing.proofs.Accepted.put_names.Goals as goal

pub returns-in_default : goal.returns-in_default
returns-in_default c = put_as (names-none _ _ c.in_default.ensures.cases) (put_none _ _ (omega arith))

pub loop-i-init : goal.loop-i-init
loop-i-init c = record { put = put_as (no-others (name_in c.args.self.now.tree.now c.args.self.now.record)) (put_none _ _ (omega arith)); short = omega arith }

pub name-requires-in-loop-i : goal.name-requires-in-loop-i
name-requires-in-loop-i c =
    let low = others-low _ _ c.in-Some.ensures.cases.0 c.requires.1 in
    omega (arith, low c.loop-i.i-index (omega arith))

pub loop-i-preserved : goal.loop-i-preserved
loop-i-preserved c =
    let name = name_in c.args.self.now.tree.now c.args.self.now.record in
    record {
      put =
          put_as
          (next-name name _ c.loop-i.i-index (omega arith))
          (put_then
          c.loop-i.invariant.put
          (put_then c.put-in-loop-i.ensures (put_as (c.name-in-loop-i.ensures.0 ∙ ap name c.from-in-loop-i.ensures) c.put-in-loop-i-2.ensures)));
      short = omega arith;
    }

pub returns : goal.returns
returns c =
    let name = name_in c.args.self.now.tree.now c.args.self.now.record in
    put_as
    (names-all name _ _ _ c.in-Some.ensures.cases.0 c.loop-i-test.false)
    (put_then (put_as (c.name.ensures.0 ∙ ap name c.from.ensures) c.put.ensures) c.loop-i.invariant.put)
