-- The slots of a position, by slots and counts that are handed in.
use Rattle.std.specs.Prelude.{ℕ, ◌+◌, ◌*◌, min, cond, List, ltb, get_or}
use Rattle.cells.specs.Rows.{each}
use Rattle.record.specs.Record.{most_features, most_dependencies}

-- how many dependencies position i has, sixteen at most, and its j-th
abbrev pub slot_number : List ℕ → ℕ → ℕ
slot_number counts i = min (get_or counts i 0) most_dependencies

abbrev pub slot_of : List ℕ → ℕ → ℕ → ℕ
slot_of slots i j = get_or slots (most_dependencies * i + j) 0

-- how many it has where it is one of 64 positions; none past the last
unfoldable pub used_slots : List ℕ → ℕ → ℕ
used_slots counts i = cond (ltb i most_features) (slot_number counts i) 0

-- those slots, one after the other
unfoldable pub own_slots : List ℕ → List ℕ → ℕ → List ℕ
own_slots slots counts i = each (used_slots counts i) (λ (j : ℕ). slot_of slots i j)
