-- `reader::no_features` meets its contract. Assumes nothing.
use Rattle.reader.proofs.ContainerLaws.{none_is}
use Rattle.reader.proofs.no_features.Goals as goal

pub returns : goal.returns
returns c = none_is c.no_feature.ensures
