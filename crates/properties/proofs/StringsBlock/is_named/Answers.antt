-- `properties::StringsBlock::is_named` meets its contract. Assumes nothing.
use Rattle.properties.proofs.LookBack.{named-placed}
use Rattle.properties.proofs.StringsBlock.is_named.Goals as goal

pub returns : goal.returns
returns c = named-placed _ _ _ _ _ c.name_place.ensures c.has_name.ensures
