-- The largest closed part of a set, by slots and counts that are handed in (document 01, "Permitted and enabled").
use Rattle.std.specs.Prelude.{ℕ, min, Bool, ◌&&◌, List, ltb}
use Rattle.positions.specs.Below.{every}
use Rattle.positions.specs.Sets.{set_words, has, collect}
use Rattle.record.specs.Record.{most_features}
use Rattle.tables.specs.Slots.{slot_number, slot_of}
use Rattle.closure.specs.Enabled.{enabled}

-- each dependency of position i is one of the first n positions
unfoldable pub slots_below : List ℕ → List ℕ → ℕ → ℕ → Bool
slots_below slots counts n i = every (slot_number counts i) (λ (j : ℕ). ltb (slot_of slots i j) n)

-- position i is in a set, and each of its dependencies is one of the first n positions
abbrev pub permitted_among : List ℕ → List ℕ → ℕ → List ℕ → ℕ → Bool
permitted_among slots counts n permitted i = has permitted i && slots_below slots counts n i

-- among n positions, the enabled ones where those of a set are permitted; one with a dependency that is none of the n is not permitted
unfoldable pub closed_among : List ℕ → List ℕ → ℕ → List ℕ → List ℕ
closed_among slots counts n permitted =
    collect set_words n (enabled (slot_number counts) (slot_of slots) (permitted_among slots counts n permitted) n)

-- the same of at most 64
abbrev pub closed_part : List ℕ → List ℕ → ℕ → List ℕ → List ℕ
closed_part slots counts n permitted = closed_among slots counts (min n most_features) permitted
