-- Where a record keeps what it was read from: features by position, and sixteen slots for each of them. Assumes nothing.
use mathlib.Core.Path.{◌≡◌, sym, ap, ◌∙◌}
use mathlib.Core.List.{List, map}
use Prim.Native.Nat.{ℕ, ◌+◌, ◌-◌, ◌*◌, ◌<◌, ◌≤◌}
use native.Mathlib.Omega.{arith}
use lib.ListN.{length, get_or, replicate, length-map, get_or-append}
use Rattle.std.specs.Prelude.{Some}
use Rattle.cells.proofs.Rows.{length-padded, padded-behind}
use Rattle.record.specs.Record.{most_features, most_dependencies, slot_count, no_feature, feature_at, slot_at}
use Rattle.nodes.specs.Nodes.{Node, node_at, children}
use Rattle.nodes.proofs.RowLaws.{row-node}
use Rattle.reading.specs.Features.{feature_of}
use Rattle.reading.specs.Dependencies.{carrier}
use Rattle.reading.specs.Reading.{record_with}
use Rattle.reading.specs.Accepted.{dependencies_of}
use Rattle.reading.proofs.Resolutions.{carriers-length, carriers-at}
use Rattle.reading.proofs.SlotRowLaws.{Rows, rows-length, row-at}

-- the feature at a position
pub feature-at : (c : Node) (slots : List ℕ) (i : ℕ) → i < length (children c) → feature_at (record_with c slots) i ≡ feature_of (node_at (children c) i)
unfolding record_with
feature-at c slots i h = row-node feature_of most_features no_feature (children c) i h

pub no-feature : (c : Node) (slots : List ℕ) (i : ℕ) → length (children c) ≤ i → feature_at (record_with c slots) i ≡ no_feature
unfolding record_with
no-feature c slots i h =
    let fs = map feature_of (children c) in padded-behind most_features no_feature fs i (omega (arith, length-map (children c) feature_of))

pub features-length : (c : Node) (slots : List ℕ) → length (children c) ≤ most_features → length (record_with c slots).features ≡ most_features
unfolding record_with
features-length c slots h =
    let fs = map feature_of (children c) in length-padded most_features no_feature fs (omega (arith, length-map (children c) feature_of))

-- the slots of a record, where they are the rows of its features
module _ (c : Node) {slots : List ℕ} (r : Rows (children c) (children c) slots) where
  abbrev rest : List ℕ
  rest = replicate (slot_count - length slots) 0

  pub slot-at : (i j : ℕ) → i < length (children c) → j < length (dependencies_of (node_at (children c) i))
      → carrier (children c) (get_or (dependencies_of (node_at (children c) i)) j 0) ≡ Some (slot_at (record_with c slots) i j)
  unfolding record_with
  slot-at i j h l =
      let row = row-at (children c) rest r i h in
      let ks = row.positions in
      let m : j < length ks = omega (arith, carriers-length (children c) row.carriers) in
      carriers-at (children c) row.carriers j l
      ∙ ap (λ (k : ℕ). Some k) (sym (row.slot j (omega (arith, row.few)) ∙ get_or-append ks (replicate (most_dependencies - length ks) 0) 0 j m))

  pub no-slot : (i j : ℕ) → i < length (children c) → length (dependencies_of (node_at (children c) i)) ≤ j → j < most_dependencies → slot_at (record_with c slots) i j ≡ 0
  unfolding record_with
  no-slot i j h l m =
      let row = row-at (children c) rest r i h in
      row.slot j m ∙ padded-behind most_dependencies 0 row.positions j (omega (arith, carriers-length (children c) row.carriers))

  pub no-row : (i j : ℕ) → length (children c) ≤ i → slot_at (record_with c slots) i j ≡ 0
  unfolding record_with
  no-row i j h = padded-behind slot_count 0 slots (most_dependencies * i + j) (omega (arith, rows-length (children c) r))

  pub record-slots : length (children c) ≤ most_features → length (record_with c slots).slots ≡ slot_count
  unfolding record_with
  record-slots h = length-padded slot_count 0 slots (omega (arith, rows-length (children c) r))
