-- `attributes::raw_bytes` meets its contract. Assumes nothing.
use mathlib.Core.Path.{ap, ◌∙◌}
use mathlib.Core.List.{List}
use Prim.Native.Nat.{ℕ}
use lib.ListN.{length}
use Rattle.cells.proofs.Copying.{written-padded}
use Rattle.attributes.specs.Attributes.{most_bytes, pi_table}
use Rattle.attributes.proofs.raw_bytes.Goals as goal

pub returns : goal.returns
unfolding pi_table
returns c =
    let bytes = c.args.bytes.now in
    ap (λ (row : List ℕ). record { count = length bytes; bytes = row }) (c.put_bytes.ensures ∙ written-padded most_bytes bytes)
