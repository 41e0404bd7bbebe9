-- `chain::layer` meets its contract. Assumes nothing.
use Rattle.chain.proofs.LayerLaws.{layer-is}
use Rattle.chain.proofs.layer.Goals as goal

pub returns : goal.returns
returns c = layer-is _ _ _ c.args.table.few c.inside.ensures c.intersection.ensures
