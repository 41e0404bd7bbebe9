-- Tables of sets: a row of words for each position (document 01, "The reach table has 64 rows").
use Rattle.std.specs.Prelude.{ℕ, zero, suc, ◌+◌, ◌*◌, min, Bool, not, ◌||◌, cond, List, [], ◌++◌, eqb, ltb, get_or}
use Rattle.cells.specs.Rows.{each, padded}
use Rattle.positions.specs.Below.{every, some}
use Rattle.positions.specs.Sets.{set_words, room, has, collect, set_of, no_members}
use Rattle.record.specs.Record.{most_features}
use Rattle.tables.specs.Slots.{slot_number, slot_of}

-- the words of row i
unfoldable pub row_at : List ℕ → ℕ → List ℕ
row_at table i = each set_words (λ (w : ℕ). get_or table (set_words * i + w) 0)

-- row i; none past the last of 64
unfoldable pub row_or_none : List ℕ → ℕ → List ℕ
row_or_none table i = cond (ltb i most_features) (row_at table i) (set_of no_members)

-- position t is in row i
abbrev pub in_row : List ℕ → ℕ → ℕ → Bool
in_row table i t = has (row_at table i) t

-- the rows of the first n positions, each a set
unfoldable pub rows_below : ℕ → (ℕ → ℕ → Bool) → List ℕ
rows_below zero row = []
rows_below (suc n) row = rows_below n row ++ set_of (row n)

-- "64 rows, zero from the count on"
abbrev pub table_words : ℕ
table_words = set_words * most_features

unfoldable pub table_of : ℕ → (ℕ → ℕ → Bool) → List ℕ
table_of n row = padded table_words 0 (rows_below n row)

-- a row of the first slots of each of n positions, as many as are counted; there are at most 64 positions, and sixteen slots of each
unfoldable pub dependency_table : List ℕ → List ℕ → ℕ → List ℕ
dependency_table slots counts n =
    table_of (min n most_features)
    (λ (i t : ℕ). some (slot_number counts i) (λ (j : ℕ). eqb (slot_of slots i j) t))

-- those of the first n positions whose rows hold only members of a set
unfoldable pub rows_inside : List ℕ → ℕ → List ℕ → List ℕ
rows_inside table n s = collect set_words n (λ (i : ℕ). every room (λ (t : ℕ). not (in_row table i t) || has s t))
