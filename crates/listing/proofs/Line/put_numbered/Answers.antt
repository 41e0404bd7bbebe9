use Rattle.std.proofs.Common.{rules}
use Rattle.listing.proofs.PutLaws.{put_then}
use Rattle.listing.proofs.Line.put_numbered.Goals as goal

pub returns : goal.returns
returns c = search (rules, put_then)
