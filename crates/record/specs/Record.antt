-- The empty record, and what stands in a record (document 01, "The feature record").
use Rattle.std.specs.Prelude.{ℕ, ◌+◌, ◌*◌, get_or, replicate}
use Rattle.record.specs.declared.Feature.{Feature}
use Rattle.record.specs.declared.Record.{Record}

-- "at most 64 features"
abbrev pub most_features : ℕ
most_features = 64

-- "none to 16" dependencies
abbrev pub most_dependencies : ℕ
most_dependencies = 16

-- "1,024 dependency slots, 16 a feature"
abbrev pub slot_count : ℕ
slot_count = most_features * most_dependencies

-- `hfscr-bit-nr`, `fscr-bit-nr`: "0 to 63"
abbrev pub highest_hfscr_bit : ℕ
highest_hfscr_bit = 63

abbrev pub highest_fscr_bit : ℕ
highest_fscr_bit = 63

-- `hwcap-bit-nr`: "0 to 63"
abbrev pub highest_hwcap_bit : ℕ
highest_hwcap_bit = 63

abbrev pub no_feature : Feature
no_feature = record {
  offset = 0;
  given = 0;
  isa = 0;
  usable_privilege = 0;
  hv_support = 0;
  os_support = 0;
  hfscr_bit_nr = 0;
  fscr_bit_nr = 0;
  hwcap_bit_nr = 0;
  phandle = 0;
  dependencies = 0;
}

-- "Unused slots are zero, and so is all of a refused read's record"
unfoldable pub no_features : Record
no_features = record { isa = 0; count = 0; features = replicate most_features no_feature; slots = replicate slot_count 0 }

-- the feature at a position
abbrev pub feature_at : Record → ℕ → Feature
feature_at r i = get_or r.features i no_feature

-- dependency j of the feature at a position
abbrev pub slot_at : Record → ℕ → ℕ → ℕ
slot_at r i j = get_or r.slots (most_dependencies * i + j) 0
