-- What a record holds of the features that it was read from (document 01, "The feature record").
use Rattle.std.specs.Prelude.{ℕ, ◌<◌, ◌≤◌, ◌≡◌, List, Option, None, Some, length, get_or}
use Rattle.record.specs.declared.Record.{Record}
use Rattle.record.specs.declared.Property.{Property}
use Rattle.record.specs.declared.Property.TheVariants.{Phandle}
use Rattle.record.specs.Record.{most_features, most_dependencies, slot_count, highest_hwcap_bit, no_feature, feature_at, slot_at}
use Rattle.record.specs.Cells.{cell, dependency_count}
use Rattle.nodes.specs.Nodes.{Node, node_at, children}
use Rattle.nodes.specs.Values.{Value, missing, value, value_of, number}
use Rattle.reading.specs.Features.{cell_in}
use Rattle.reading.specs.Accepted.{dependencies_of}

-- "The record also holds the container's `isa` and, for each feature, its begin token's offset, its cells as read and which properties
-- were given"
pub record Holds (container : Node) (r : Record) : Type 0 where
  pub isa : r.isa ≡ number (value_of container "isa")
  pub count : r.count ≡ length (children container)
  pub offset : (i : ℕ) → i < r.count → (feature_at r i).offset ≡ (node_at (children container) i).at
  pub cells : (i : ℕ) → i < r.count → (p : Property) → cell (feature_at r i) p ≡ cell_in (node_at (children container) i) p

-- (A2) "The feature record now holds either a bit number or none": what it holds of a node's `hwcap-bit-nr`
pub data CapabilityHeld : Value → Option ℕ → Type 0 where
  none : CapabilityHeld missing None
  numbered : {bytes : List ℕ} → length bytes ≡ 4 → number (value bytes) ≤ highest_hwcap_bit → CapabilityHeld (value bytes) (Some (number (value bytes)))

-- "one flat run of 1,024 dependency slots, 16 a feature"; "Unused slots are zero"
pub record Zeroed (r : Record) : Type 0 where
  pub features : length r.features ≡ most_features
  pub slots : length r.slots ≡ slot_count
  pub no_more : (i : ℕ) → r.count ≤ i → feature_at r i ≡ no_feature
  pub no_row : (i j : ℕ) → r.count ≤ i → slot_at r i j ≡ 0
  pub no_slot : (i j : ℕ) → i < r.count → dependency_count (feature_at r i) ≤ j → j < most_dependencies → slot_at r i j ≡ 0

-- "each dependency becomes the position of the feature with that phandle": dependency j of the feature at position i is the position of a
-- feature of the record, it carries the phandle that cell j names, and no other feature carries it
pub record Resolved (features : List Node) (r : Record) : Type 0 where
  pub number : (i : ℕ) → i < r.count → dependency_count (feature_at r i) ≡ length (dependencies_of (node_at features i))
  pub below : (i j : ℕ) → i < r.count → j < dependency_count (feature_at r i) → slot_at r i j < r.count
  pub carried : (i j : ℕ) → i < r.count → j < dependency_count (feature_at r i)
      → cell (feature_at r (slot_at r i j)) Phandle ≡ Some (get_or (dependencies_of (node_at features i)) j 0)
  pub only : (i j k : ℕ) → i < r.count → j < dependency_count (feature_at r i) → k < r.count
      → cell (feature_at r k) Phandle ≡ Some (get_or (dependencies_of (node_at features i)) j 0) → k ≡ slot_at r i j
