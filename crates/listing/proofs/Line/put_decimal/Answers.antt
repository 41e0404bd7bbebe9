use mathlib.Core.Path.{ap, ◌∙◌}
use native.Mathlib.Omega.{arith}
use lib.ListN.{length}
use Rattle.listing.proofs.PutLaws.{put_as}
use Rattle.listing.proofs.DigitLaws.{decimal-is}
use Rattle.listing.proofs.Line.put_decimal.Goals as goal

pub put-requires : goal.put-requires
put-requires c = omega (arith, ap length (c.as_bytes.ensures.value ∙ c.format.ensures.text ∙ decimal-is c.args.number (omega arith)))

pub returns : goal.returns
returns c = put_as (c.as_bytes.ensures.value ∙ c.format.ensures.text ∙ decimal-is c.args.number (omega arith)) c.put.ensures
