-- The test of whether a feature record is well formed: `Formed` says what that is (document 01, number 14).
use Rattle.std.specs.Prelude.{ℕ, ◌+◌, ◌*◌, Bool, false, not, ◌&&◌, List, leb, ltb, get_or, Option, None, Some}
use Rattle.positions.specs.Below.{every}
use Rattle.record.specs.declared.Feature.{Feature}
use Rattle.record.specs.declared.Record.{Record}
use Rattle.record.specs.declared.Property.TheVariants.{HvSupport, OsSupport, HfscrBitNr, FscrBitNr, HwcapBitNr}
use Rattle.record.specs.Record.{most_features, most_dependencies, highest_hfscr_bit, highest_fscr_bit, highest_hwcap_bit, feature_at}
use Rattle.record.specs.Cells.{cell, low_bit, dependency_count}

-- a bit number is in range where it is given, and given where it is required
abbrev pub bit_fits : ℕ → Bool → Option ℕ → Bool
bit_fits highest required None = not required
bit_fits highest required (Some n) = leb n highest

-- the three bit numbers of a feature; that of a capability is never required
unfoldable pub bits_fit : Feature → Bool
bits_fit f =
    bit_fits highest_hfscr_bit (low_bit (cell f HvSupport)) (cell f HfscrBitNr)
    && bit_fits highest_fscr_bit (low_bit (cell f OsSupport)) (cell f FscrBitNr)
    && bit_fits highest_hwcap_bit false (cell f HwcapBitNr)

-- dependency j of position i, in a run of slots, is below the count
unfoldable pub slot_below : List ℕ → ℕ → ℕ → ℕ → Bool
slot_below slots count i j = ltb (get_or slots (most_dependencies * i + j) 0) count

-- position i has at most sixteen dependencies, n, and each is below the count
unfoldable pub slots_fit : List ℕ → ℕ → ℕ → ℕ → Bool
slots_fit slots count i n = leb n most_dependencies && every n (slot_below slots count i)

-- a feature at position i: its bit numbers, and its dependencies
abbrev pub fits_in : Feature → List ℕ → ℕ → ℕ → Bool
fits_in f slots count i = bits_fit f && slots_fit slots count i (dependency_count f)

abbrev pub feature_fits : Record → ℕ → Bool
feature_fits r i = fits_in (feature_at r i) r.slots r.count i

unfoldable pub well_formed : Record → Bool
well_formed r = leb r.count most_features && every r.count (feature_fits r)
