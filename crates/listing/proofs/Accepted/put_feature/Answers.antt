-- `listing::Accepted::put_feature` meets its contract.
use mathlib.Core.Path.{ap}
use native.Mathlib.Omega.{arith}
use Prim.Native.Nat.{ℕ}
use lib.ListN.{length}
use Rattle.listing.specs.Digits.{decimal}
use Rattle.listing.specs.Listing.{feature_line}
use Rattle.listing.proofs.PutLaws.{put_then, put_as}
use Rattle.listing.proofs.StateLaws.{feature_fits}
use Rattle.listing.proofs.Accepted.put_feature.Goals as goal

pub put_decimal-requires : goal.put_decimal-requires
put_decimal-requires c =
    let f = feature_fits c.args.self.now.read _ c.requires.0 in omega (arith, ap (λ (n : ℕ). length (decimal n)) c.from.ensures)

pub put-requires : goal.put-requires
put-requires c =
    let f = feature_fits c.args.self.now.read _ c.requires.0 in omega (arith, ap (λ (n : ℕ). length (decimal n)) c.from.ensures)

pub returns : goal.returns
unfolding feature_line
returns c =
    put_then
    (put_then
    (put_then (put_then (put_as (ap decimal c.from.ensures) c.put_decimal.ensures) c.put.ensures) (put_as c.name.ensures.0 c.put-2.ensures))
    c.put_state.ensures)
    c.put-3.ensures
