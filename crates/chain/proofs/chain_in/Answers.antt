-- `chain::chain_in` meets its contract. Assumes nothing.
use mathlib.Core.Path.{refl, ap}
use Rattle.std.proofs.lemmas.Result.{err_from_is_err_and}
use Rattle.refusal.specs.Refusal.{refuse, number_of}
use Rattle.refusal.specs.declared.Refusal.{Refusal}
use Rattle.chain.proofs.TellLaws.{tells-past, way-low, tells-enabled, tells-short, tells-chain}
use borrow.Author.Rules.{rules}
use Rattle.chain.proofs.chain_in.Goals as goal

pub returns-then-table-i : goal.returns-then-table-i
returns-then-table-i c = tells-past c.if-table-i.true refl

pub returns-in_err-layers : goal.returns-in_err-layers
returns-in_err-layers c =
    let p = err_from_is_err_and c.from_residual.result c.from_residual.ensures.1 in
    rw (p.1, p.2)
    (tells-enabled c.args.table.few c.if-table-i.false c.in_err-layers.ensures.1 (ap (λ (r : Refusal). refuse 0 (number_of r)) c.in_err-layers.ensures.0))

pub returns-then-out-length : goal.returns-then-out-length
returns-then-out-length c = tells-short c.args.table.few c.if-table-i.false c.in_ok-layers.ensures c.if-out-length.true refl

pub write_chain-requires : goal.write_chain-requires
write_chain-requires c =
    let low = way-low c.args.table.few c.if-table-i.false c.in_ok-layers.ensures c.requires in
    (search rules, search rules, low)

pub returns : goal.returns
returns c = tells-chain c.args.table.few c.if-table-i.false c.in_ok-layers.ensures c.if-out-length.false c.write_chain.ensures refl
