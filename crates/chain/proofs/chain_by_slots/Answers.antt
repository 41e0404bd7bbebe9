-- `chain::chain_by_slots` meets its contract. Assumes nothing.
use mathlib.Core.Path.{◌∙◌}
use native.Mathlib.Omega.{arith}
use Rattle.tables.proofs.DependencyLaws.{table-most}
use Rattle.chain.proofs.BoundedLaws.{bounded-same}
use Rattle.chain.proofs.BySlotsLaws.{slots-shown, slots-tell}
use Rattle.chain.proofs.chain_by_slots.Goals as goal

pub chain_in-requires : goal.chain_in-requires
chain_in-requires c =
    let g = c.new-g.ensures in
    let t = c.new-table.ensures in
    let part = bounded-same g.slots g.counts (omega (arith, g.n, t.n)) c.bounded_part-x.ensures in
    slots-shown _ _ c.args.n t.n part (t.words ∙ c.dependency_rows-rows.ensures ∙ table-most _ _ _ _ t.n)

pub returns : goal.returns
returns c =
    let g = c.new-g.ensures in
    let t = c.new-table.ensures in
    let part = bounded-same g.slots g.counts (omega (arith, g.n, t.n)) c.bounded_part-x.ensures in
    let rows = t.words ∙ c.dependency_rows-rows.ensures ∙ table-most _ _ _ _ t.n in
    let tells = slots-tell _ _ c.args.n t.n part rows _ c.intersection.ensures _ c.chain_in.ensures in
    record { result_value = tells.0; out_after = tells.1 }
