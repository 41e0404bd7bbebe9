-- `listing::Accepted::put_head` meets its contract.
use mathlib.Core.Path.{ap, ◌∙◌}
use mathlib.Core.List.{◌++◌}
use Prim.Native.Nat.{ℕ}
use Rattle.characters.specs.Characters.{bytes}
use Rattle.listing.specs.Digits.{decimal}
use Rattle.listing.specs.Listing.{head_line}
use Rattle.listing.proofs.PutLaws.{put_then, put_as}
use Rattle.listing.proofs.StateLaws.{enable-ok, head-count}
use Rattle.listing.proofs.Accepted.put_head.Goals as goal

pub unwrap-enabled-requires : goal.unwrap-enabled-requires
unwrap-enabled-requires c = enable-ok c.args.self.now.read c.all_granted.ensures _ c.enable.ensures

pub returns : goal.returns
unfolding head_line
returns c =
    let count = head-count c.args.self.now.read c.all_granted.ensures _ c.unwrap-enabled.result c.enable.ensures c.unwrap-enabled.ensures in
    put_then
    (put_then
    (put_then
    (put_as (ap (λ (n : ℕ). bytes "isa " ++ decimal n) c.from.ensures) c.put_numbered.ensures)
    (put_as (ap (λ (n : ℕ). bytes " features " ++ decimal n) c.from-2.ensures) c.put_numbered-2.ensures))
    (put_as (ap (λ (n : ℕ). bytes " enabled " ++ decimal n) (c.from-3.ensures ∙ count)) c.put_numbered-3.ensures))
    c.put.ensures
