-- What a record holds of a feature's capability bit. Assumes nothing.
use Prim.Native.Nat.{ℕ, ◌<◌}
use mathlib.Core.Path.{◌≡◌, sym, subst}
use mathlib.Core.List.{List}
use native.Mathlib.Omega.{arith}
use borrow.Author.Tests.{eqb-true}
use lib.ListN.{length}
use Rattle.record.specs.declared.Property.TheVariants.{HwcapBitNr}
use Rattle.record.specs.Record.{highest_hwcap_bit, feature_at}
use Rattle.record.specs.Cells.{cell}
use Rattle.nodes.specs.Nodes.{node_at}
use Rattle.nodes.specs.Values.{Value, missing, value, value_of}
use Rattle.reading.specs.Features.{cell_of, cell_in}
use Rattle.reading.specs.Reading.{read_record}
use Rattle.reading.specs.Accepted.{container_of, features_of, NumberForm}
use Rattle.reading.specs.Resolved.{CapabilityHeld, none, numbered}
use Rattle.reading.proofs.Ends.{read-accepted}
use Rattle.reading.proofs.Dependencies.{form-at, read-holds}

either-or : (v : Value) → NumberForm highest_hwcap_bit v → CapabilityHeld v (cell_of v)
either-or missing f = none
either-or (value bs) f = numbered (eqb-true (length bs) 4 f.form) f.range

pub read-capability : (tree : List ℕ) → (read_record tree).number ≡ 0 → (i : ℕ) → i < length (features_of tree)
    → CapabilityHeld (value_of (node_at (features_of tree) i) "hwcap-bit-nr") (cell (feature_at (read_record tree).value i) HwcapBitNr)
unfolding cell_in
read-capability tree z i l =
    let h = read-holds tree z in
    let v = value_of (node_at (features_of tree) i) "hwcap-bit-nr" in
    let form = form-at (container_of tree) (read-accepted tree z).form i l in
    subst (CapabilityHeld v) (sym (h.cells i (omega (arith, h.count)) HwcapBitNr)) (either-or v form.hwcap)
