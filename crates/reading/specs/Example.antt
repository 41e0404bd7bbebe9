-- The tree of document 01, "Both sides", as dtc builds it from tests/trees/features.dts.
use Rattle.std.specs.Prelude.{ℕ, take, drop, replicate}
use mathlib.Core.List.{List, [], ◌∷◌, ◌++◌, flat_map}
use Rattle.cells.specs.Bytes.{cell_bytes}
use Rattle.record.specs.declared.Feature.{Feature}
use Rattle.record.specs.declared.Record.{Record}
use Rattle.record.specs.Record.{no_feature}

unfoldable pub example_tree : List ℕ
example_tree =
    208 ∷ 13 ∷ 254 ∷ 237 ∷ 0 ∷ 0 ∷ 2 ∷ 233 ∷ 0 ∷ 0 ∷ 0 ∷ 56 ∷ 0 ∷ 0 ∷ 2 ∷ 132 ∷
    0 ∷ 0 ∷ 0 ∷ 40 ∷ 0 ∷ 0 ∷ 0 ∷ 17 ∷ 0 ∷ 0 ∷ 0 ∷ 16 ∷ 0 ∷ 0 ∷ 0 ∷ 0 ∷
    0 ∷ 0 ∷ 0 ∷ 101 ∷ 0 ∷ 0 ∷ 2 ∷ 76 ∷ 0 ∷ 0 ∷ 0 ∷ 0 ∷ 0 ∷ 0 ∷ 0 ∷ 0 ∷
    0 ∷ 0 ∷ 0 ∷ 0 ∷ 0 ∷ 0 ∷ 0 ∷ 0 ∷ 0 ∷ 0 ∷ 0 ∷ 1 ∷ 0 ∷ 0 ∷ 0 ∷ 0 ∷
    0 ∷ 0 ∷ 0 ∷ 1 ∷ 99 ∷ 112 ∷ 117 ∷ 115 ∷ 0 ∷ 0 ∷ 0 ∷ 0 ∷ 0 ∷ 0 ∷ 0 ∷ 1 ∷
    105 ∷ 98 ∷ 109 ∷ 44 ∷ 112 ∷ 111 ∷ 119 ∷ 101 ∷ 114 ∷ 112 ∷ 99 ∷ 45 ∷ 99 ∷ 112 ∷ 117 ∷ 45 ∷
    102 ∷ 101 ∷ 97 ∷ 116 ∷ 117 ∷ 114 ∷ 101 ∷ 115 ∷ 0 ∷ 0 ∷ 0 ∷ 0 ∷ 0 ∷ 0 ∷ 0 ∷ 3 ∷
    0 ∷ 0 ∷ 0 ∷ 13 ∷ 0 ∷ 0 ∷ 0 ∷ 0 ∷ 99 ∷ 112 ∷ 117 ∷ 45 ∷ 102 ∷ 101 ∷ 97 ∷ 116 ∷
    117 ∷ 114 ∷ 101 ∷ 115 ∷ 0 ∷ 0 ∷ 0 ∷ 0 ∷ 0 ∷ 0 ∷ 0 ∷ 3 ∷ 0 ∷ 0 ∷ 0 ∷ 25 ∷
    0 ∷ 0 ∷ 0 ∷ 12 ∷ 105 ∷ 98 ∷ 109 ∷ 44 ∷ 112 ∷ 111 ∷ 119 ∷ 101 ∷ 114 ∷ 112 ∷ 99 ∷ 45 ∷
    99 ∷ 112 ∷ 117 ∷ 45 ∷ 102 ∷ 101 ∷ 97 ∷ 116 ∷ 117 ∷ 114 ∷ 101 ∷ 115 ∷ 0 ∷ 0 ∷ 0 ∷ 0 ∷
    0 ∷ 0 ∷ 0 ∷ 3 ∷ 0 ∷ 0 ∷ 0 ∷ 4 ∷ 0 ∷ 0 ∷ 0 ∷ 23 ∷ 0 ∷ 0 ∷ 11 ∷ 184 ∷
    0 ∷ 0 ∷ 0 ∷ 1 ∷ 97 ∷ 108 ∷ 112 ∷ 104 ∷ 97 ∷ 0 ∷ 0 ∷ 0 ∷ 0 ∷ 0 ∷ 0 ∷ 3 ∷
    0 ∷ 0 ∷ 0 ∷ 4 ∷ 0 ∷ 0 ∷ 0 ∷ 23 ∷ 0 ∷ 0 ∷ 11 ∷ 184 ∷ 0 ∷ 0 ∷ 0 ∷ 3 ∷
    0 ∷ 0 ∷ 0 ∷ 4 ∷ 0 ∷ 0 ∷ 0 ∷ 27 ∷ 0 ∷ 0 ∷ 0 ∷ 7 ∷ 0 ∷ 0 ∷ 0 ∷ 3 ∷
    0 ∷ 0 ∷ 0 ∷ 4 ∷ 0 ∷ 0 ∷ 0 ∷ 44 ∷ 0 ∷ 0 ∷ 0 ∷ 2 ∷ 0 ∷ 0 ∷ 0 ∷ 3 ∷
    0 ∷ 0 ∷ 0 ∷ 4 ∷ 0 ∷ 0 ∷ 0 ∷ 57 ∷ 0 ∷ 0 ∷ 0 ∷ 1 ∷ 0 ∷ 0 ∷ 0 ∷ 2 ∷
    0 ∷ 0 ∷ 0 ∷ 1 ∷ 98 ∷ 114 ∷ 97 ∷ 118 ∷ 111 ∷ 0 ∷ 0 ∷ 0 ∷ 0 ∷ 0 ∷ 0 ∷ 3 ∷
    0 ∷ 0 ∷ 0 ∷ 4 ∷ 0 ∷ 0 ∷ 0 ∷ 23 ∷ 0 ∷ 0 ∷ 11 ∷ 184 ∷ 0 ∷ 0 ∷ 0 ∷ 3 ∷
    0 ∷ 0 ∷ 0 ∷ 4 ∷ 0 ∷ 0 ∷ 0 ∷ 27 ∷ 0 ∷ 0 ∷ 0 ∷ 7 ∷ 0 ∷ 0 ∷ 0 ∷ 3 ∷
    0 ∷ 0 ∷ 0 ∷ 4 ∷ 0 ∷ 0 ∷ 0 ∷ 65 ∷ 0 ∷ 0 ∷ 0 ∷ 1 ∷ 0 ∷ 0 ∷ 0 ∷ 3 ∷
    0 ∷ 0 ∷ 0 ∷ 4 ∷ 0 ∷ 0 ∷ 0 ∷ 76 ∷ 0 ∷ 0 ∷ 0 ∷ 9 ∷ 0 ∷ 0 ∷ 0 ∷ 3 ∷
    0 ∷ 0 ∷ 0 ∷ 4 ∷ 0 ∷ 0 ∷ 0 ∷ 44 ∷ 0 ∷ 0 ∷ 0 ∷ 35 ∷ 0 ∷ 0 ∷ 0 ∷ 3 ∷
    0 ∷ 0 ∷ 0 ∷ 4 ∷ 0 ∷ 0 ∷ 0 ∷ 57 ∷ 0 ∷ 0 ∷ 0 ∷ 2 ∷ 0 ∷ 0 ∷ 0 ∷ 3 ∷
    0 ∷ 0 ∷ 0 ∷ 4 ∷ 0 ∷ 0 ∷ 0 ∷ 88 ∷ 0 ∷ 0 ∷ 0 ∷ 1 ∷ 0 ∷ 0 ∷ 0 ∷ 2 ∷
    0 ∷ 0 ∷ 0 ∷ 1 ∷ 99 ∷ 97 ∷ 114 ∷ 111 ∷ 108 ∷ 0 ∷ 0 ∷ 0 ∷ 0 ∷ 0 ∷ 0 ∷ 3 ∷
    0 ∷ 0 ∷ 0 ∷ 4 ∷ 0 ∷ 0 ∷ 0 ∷ 23 ∷ 0 ∷ 0 ∷ 11 ∷ 184 ∷ 0 ∷ 0 ∷ 0 ∷ 3 ∷
    0 ∷ 0 ∷ 0 ∷ 4 ∷ 0 ∷ 0 ∷ 0 ∷ 27 ∷ 0 ∷ 0 ∷ 0 ∷ 7 ∷ 0 ∷ 0 ∷ 0 ∷ 3 ∷
    0 ∷ 0 ∷ 0 ∷ 4 ∷ 0 ∷ 0 ∷ 0 ∷ 65 ∷ 0 ∷ 0 ∷ 0 ∷ 0 ∷ 0 ∷ 0 ∷ 0 ∷ 3 ∷
    0 ∷ 0 ∷ 0 ∷ 4 ∷ 0 ∷ 0 ∷ 0 ∷ 44 ∷ 0 ∷ 0 ∷ 0 ∷ 5 ∷ 0 ∷ 0 ∷ 0 ∷ 3 ∷
    0 ∷ 0 ∷ 0 ∷ 4 ∷ 0 ∷ 0 ∷ 0 ∷ 57 ∷ 0 ∷ 0 ∷ 0 ∷ 3 ∷ 0 ∷ 0 ∷ 0 ∷ 2 ∷
    0 ∷ 0 ∷ 0 ∷ 1 ∷ 100 ∷ 101 ∷ 108 ∷ 116 ∷ 97 ∷ 0 ∷ 0 ∷ 0 ∷ 0 ∷ 0 ∷ 0 ∷ 3 ∷
    0 ∷ 0 ∷ 0 ∷ 4 ∷ 0 ∷ 0 ∷ 0 ∷ 23 ∷ 0 ∷ 0 ∷ 11 ∷ 184 ∷ 0 ∷ 0 ∷ 0 ∷ 3 ∷
    0 ∷ 0 ∷ 0 ∷ 4 ∷ 0 ∷ 0 ∷ 0 ∷ 27 ∷ 0 ∷ 0 ∷ 0 ∷ 7 ∷ 0 ∷ 0 ∷ 0 ∷ 3 ∷
    0 ∷ 0 ∷ 0 ∷ 4 ∷ 0 ∷ 0 ∷ 0 ∷ 44 ∷ 0 ∷ 0 ∷ 0 ∷ 6 ∷ 0 ∷ 0 ∷ 0 ∷ 3 ∷
    0 ∷ 0 ∷ 0 ∷ 8 ∷ 0 ∷ 0 ∷ 0 ∷ 88 ∷ 0 ∷ 0 ∷ 0 ∷ 2 ∷ 0 ∷ 0 ∷ 0 ∷ 3 ∷
    0 ∷ 0 ∷ 0 ∷ 2 ∷ 0 ∷ 0 ∷ 0 ∷ 1 ∷ 101 ∷ 99 ∷ 104 ∷ 111 ∷ 0 ∷ 0 ∷ 0 ∷ 0 ∷
    0 ∷ 0 ∷ 0 ∷ 3 ∷ 0 ∷ 0 ∷ 0 ∷ 4 ∷ 0 ∷ 0 ∷ 0 ∷ 23 ∷ 0 ∷ 0 ∷ 11 ∷ 184 ∷
    0 ∷ 0 ∷ 0 ∷ 3 ∷ 0 ∷ 0 ∷ 0 ∷ 4 ∷ 0 ∷ 0 ∷ 0 ∷ 27 ∷ 0 ∷ 0 ∷ 0 ∷ 6 ∷
    0 ∷ 0 ∷ 0 ∷ 2 ∷ 0 ∷ 0 ∷ 0 ∷ 2 ∷ 0 ∷ 0 ∷ 0 ∷ 2 ∷ 0 ∷ 0 ∷ 0 ∷ 2 ∷
    0 ∷ 0 ∷ 0 ∷ 9 ∷ 100 ∷ 101 ∷ 118 ∷ 105 ∷ 99 ∷ 101 ∷ 95 ∷ 116 ∷ 121 ∷ 112 ∷ 101 ∷ 0 ∷
    99 ∷ 111 ∷ 109 ∷ 112 ∷ 97 ∷ 116 ∷ 105 ∷ 98 ∷ 108 ∷ 101 ∷ 0 ∷ 105 ∷ 115 ∷ 97 ∷ 0 ∷ 117 ∷
    115 ∷ 97 ∷ 98 ∷ 108 ∷ 101 ∷ 45 ∷ 112 ∷ 114 ∷ 105 ∷ 118 ∷ 105 ∷ 108 ∷ 101 ∷ 103 ∷ 101 ∷ 0 ∷
    104 ∷ 119 ∷ 99 ∷ 97 ∷ 112 ∷ 45 ∷ 98 ∷ 105 ∷ 116 ∷ 45 ∷ 110 ∷ 114 ∷ 0 ∷ 112 ∷ 104 ∷ 97 ∷
    110 ∷ 100 ∷ 108 ∷ 101 ∷ 0 ∷ 111 ∷ 115 ∷ 45 ∷ 115 ∷ 117 ∷ 112 ∷ 112 ∷ 111 ∷ 114 ∷ 116 ∷ 0 ∷
    102 ∷ 115 ∷ 99 ∷ 114 ∷ 45 ∷ 98 ∷ 105 ∷ 116 ∷ 45 ∷ 110 ∷ 114 ∷ 0 ∷ 100 ∷ 101 ∷ 112 ∷ 101 ∷
    110 ∷ 100 ∷ 101 ∷ 110 ∷ 99 ∷ 105 ∷ 101 ∷ 115 ∷ 0 ∷
    []

-- the same with NOP tokens in the place of alpha's `hwcap-bit-nr`: a user feature without a capability bit (A2)
unfoldable pub older_tree : List ℕ
older_tree = take 236 example_tree ++ flat_map cell_bytes (4 ∷ 4 ∷ 4 ∷ 4 ∷ []) ++ drop 252 example_tree

-- the same with an empty string before the one of the container's `compatible`, which then stands at place 1 (A3)
unfoldable pub second_name_tree : List ℕ
second_name_tree =
    take 140 example_tree ++ cell_bytes 26 ++ take 4 (drop 144 example_tree) ++ (0 ∷ []) ++ take 27 (drop 148 example_tree) ++ drop 176 example_tree

-- the same with an empty string behind the one of the container's `device_type`, which then is not its only one (A3)
unfoldable pub two_types_tree : List ℕ
two_types_tree = take 112 example_tree ++ cell_bytes 14 ++ drop 116 example_tree

-- alpha, by its word `given` and its capability bit
abbrev alpha : ℕ → ℕ → Feature
alpha given number = record {
  offset = 192;
  given = given;
  isa = 3000;
  usable_privilege = 7;
  hv_support = 0;
  os_support = 0;
  hfscr_bit_nr = 0;
  fscr_bit_nr = 0;
  hwcap_bit_nr = number;
  phandle = 1;
  dependencies = 0;
}

-- the record, by its first feature: bravo needs alpha; delta needs bravo and carol
abbrev record_from : Feature → Record
record_from first = record {
  isa = 3000;
  count = 5;
  features =
      first
      ∷ (record { offset = 272; given = 491; isa = 3000; usable_privilege = 7; hv_support = 0; os_support = 1; hfscr_bit_nr = 0; fscr_bit_nr = 9; hwcap_bit_nr = 35; phandle = 2; dependencies = 1 })
      ∷ (record { offset = 400; given = 203; isa = 3000; usable_privilege = 7; hv_support = 0; os_support = 0; hfscr_bit_nr = 0; fscr_bit_nr = 0; hwcap_bit_nr = 5; phandle = 3; dependencies = 0 })
      ∷ (record { offset = 496; given = 323; isa = 3000; usable_privilege = 7; hv_support = 0; os_support = 0; hfscr_bit_nr = 0; fscr_bit_nr = 0; hwcap_bit_nr = 6; phandle = 0; dependencies = 2 })
      ∷ (record { offset = 580; given = 3; isa = 3000; usable_privilege = 6; hv_support = 0; os_support = 0; hfscr_bit_nr = 0; fscr_bit_nr = 0; hwcap_bit_nr = 0; phandle = 0; dependencies = 0 })
      ∷ replicate 59 no_feature;
  slots = replicate 48 0 ++ (1 ∷ 2 ∷ replicate 974 0);
}

unfoldable pub example_record : Record
example_record = record_from (alpha 195 2)

-- the bit of alpha's `hwcap-bit-nr` in `given` is clear, and its cell zero
unfoldable pub older_record : Record
older_record = record_from (alpha 131 0)
