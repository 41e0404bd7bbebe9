-- `chain::chain` meets its contract: the number that was found decides, or the graph of the record. Assumes nothing.
use mathlib.Core.Path.{refl, ◌∙◌}
use Rattle.std.proofs.lemmas.Result.{err_from_is_err_and}
use Rattle.refusal.proofs.Numbers.{numbered}
use Rattle.tables.proofs.DependencyLaws.{table-most}
use Rattle.chain.proofs.ChainLaws.{asked-outcome, asked-bytes, graph-shown, chain-outcome, chain-bytes}
use Rattle.chain.proofs.chain.Goals as goal

pub returns-in_err-x : goal.returns-in_err-x
returns-in_err-x c =
    let p = err_from_is_err_and c.from_residual.result c.from_residual.ensures.1 in
    let seen = c.in_err-x.ensures in record {
      result_value = rw (p.1, p.2) (asked-outcome _ _ _ seen (numbered _) _ _);
      out_after = asked-bytes _ _ _ seen (numbered _) _ _;
    }

pub chain_in-requires : goal.chain_in-requires
chain_in-requires c =
    let t = c.new.ensures in
    graph-shown _ _ _ c.in_ok-x.ensures refl t.n (t.words ∙ c.dependency_rows-rows.ensures ∙ table-most _ _ _ _ t.n)

pub returns : goal.returns
returns c =
    let seen = c.in_ok-x.ensures in
    let t = c.new.ensures in
    let rows = t.words ∙ c.dependency_rows-rows.ensures ∙ table-most _ _ _ _ t.n in
    let tells = c.chain_in.ensures in record {
      result_value = chain-outcome _ _ _ seen refl t.n rows tells;
      out_after = chain-bytes _ _ _ seen refl t.n rows tells;
    }
