-- `nodes::repeated_name` meets its contract. Assumes nothing.
use mathlib.Core.Path.{◌∙◌}
use Prim.Native.Nat.{◌<◌}
use native.Mathlib.Omega.{arith}
use lib.ListN.{length-take}
use Rattle.nodes.proofs.SearchLaws.{same-is, row_more, search-found, search-none}
use Rattle.nodes.proofs.repeated_name.Goals as goal

pub loop-q-preserved : goal.loop-q-preserved
loop-q-preserved c =
    let i : c.search.i < c.min-count.result = omega (arith, length-take c.min-count.result c.args.fs.places) in
    let j : c.loop-q.q-index < c.search.i = omega (arith, length-take c.search.i c.args.fs.places) in
    (c.loop-q.invariant.0, row_more _ _ c.loop-q.invariant.1 j (same-is _ _ _ i j c.same_name.ensures ∙ c.if-same_name.false))

pub returns-then-same_name : goal.returns-then-same_name
returns-then-same_name c =
    let i : c.search.i < c.min-count.result = omega (arith, length-take c.min-count.result c.args.fs.places) in
    let j : c.loop-q.q-index < c.search.i = omega (arith, length-take c.search.i c.args.fs.places) in
    search-found _ _ _ c.loop-q.invariant.1 j (same-is _ _ _ i j c.same_name.ensures ∙ c.if-same_name.true)

pub returns-after-search : goal.returns-after-search
returns-after-search c =
    c.search.invariant.0 ∙ search-none _ _ c.search.invariant.1 (omega (arith, length-take c.min-count.result c.args.fs.places))
