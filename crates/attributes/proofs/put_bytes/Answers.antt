-- `attributes::put_bytes` meets its contract. Assumes nothing.
use mathlib.Core.Path.{◌≡◌, ap}
use mathlib.Core.List.{◌++◌}
use Prim.Native.Nat.{ℕ, ◌+◌}
use native.Mathlib.Omega.{arith}
use lib.ListN.{length, drop}
use Rattle.cells.specs.Buffer.{written}
use Rattle.attributes.proofs.put_bytes.Goals as goal

pub returns : goal.returns
unfolding written
returns c =
    let bytes = c.args.bytes.now in
    let e : length bytes ≡ 0 + length bytes = omega arith in
    rw c.copy_from_slice.ensures.after (ap (λ (n : ℕ). bytes ++ drop n c.args.row.now) e)
