-- When a feature record is well formed (document 01, number 14): a relation in its words. `well_formed` is its test.
use Rattle.std.specs.Prelude.{ℕ, ◌≤◌, ◌<◌, ◌≡◌, true, Option, Some}
use Rattle.record.specs.declared.Record.{Record}
use Rattle.record.specs.declared.Property.TheVariants.{HvSupport, OsSupport, HfscrBitNr, FscrBitNr, HwcapBitNr}
use Rattle.record.specs.Record.{most_features, most_dependencies, highest_hfscr_bit, highest_fscr_bit, highest_hwcap_bit, feature_at, slot_at}
use Rattle.record.specs.Cells.{cell, low_bit, dependency_count}

-- not "a given bit number above 63"
abbrev pub InRange : ℕ → Option ℕ → Type 0
InRange highest number = (n : ℕ) → number ≡ Some n → n ≤ highest

-- not "one missing where required": "where that bit 0 is set"
abbrev pub GivenWith : Option ℕ → Option ℕ → Type 0
GivenWith support number = low_bit support ≡ true → (n : ℕ) × (number ≡ Some n)

-- the feature at a position. No capability bit is required (A2): "The feature record now holds either a bit number or none"
pub record FeatureFormed (r : Record) (i : ℕ) : Type 0 where
  pub hfscr : InRange highest_hfscr_bit (cell (feature_at r i) HfscrBitNr)
  pub fscr : InRange highest_fscr_bit (cell (feature_at r i) FscrBitNr)
  pub hwcap : InRange highest_hwcap_bit (cell (feature_at r i) HwcapBitNr)
  pub hfscr_given : GivenWith (cell (feature_at r i) HvSupport) (cell (feature_at r i) HfscrBitNr)
  pub fscr_given : GivenWith (cell (feature_at r i) OsSupport) (cell (feature_at r i) FscrBitNr)
  -- not "more than 16 dependencies, or one not below the count"
  pub few : dependency_count (feature_at r i) ≤ most_dependencies
  pub below : (j : ℕ) → j < dependency_count (feature_at r i) → slot_at r i j < r.count

-- not "count above 64"
pub record Formed (r : Record) : Type 0 where
  pub few : r.count ≤ most_features
  pub each : (i : ℕ) → i < r.count → FeatureFormed r i
