-- `listing::Line::put_refusal` meets its contract.
use mathlib.Core.Path.{ap, ◌∙◌}
use Prim.Native.Nat.{ℕ}
use Rattle.listing.specs.Listing.{refused_line}
use Rattle.listing.proofs.PutLaws.{put_then, put_as}
use Rattle.listing.proofs.Line.put_refusal.Goals as goal

pub returns : goal.returns
unfolding refused_line
returns c =
    put_as
    (ap (λ (n : ℕ). refused_line n c.args.at.place) (c.from-2.ensures ∙ c.from.ensures))
    (put_then (put_then c.put_numbered.ensures c.put_numbered-2.ensures) c.put.ensures)
