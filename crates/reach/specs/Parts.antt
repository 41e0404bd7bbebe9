-- What the functions behind the public ones promise.
use Rattle.std.specs.Prelude.{ℕ, ◌≡◌, Bool, ◌&&◌, ◌||◌, cond, List, eqb}
use Rattle.positions.specs.Sets.{has, either}
use Rattle.tables.specs.Tables.{row_at, in_row, table_of}
use Rattle.closure.specs.Reach.{reach}
use Rattle.enabled.specs.Parts.{Shows}

-- the dependencies of each of n positions, and itself
unfoldable pub with_self : List ℕ → ℕ → ℕ → Bool
with_self table i t = in_row table i t || eqb i t

-- a set that has k takes in the members of another
unfoldable pub joined : List ℕ → List ℕ → ℕ → List ℕ
joined row other k = cond (has row k) (either row other) row

-- what is reached, with k let through
unfoldable pub through : ℕ → (ℕ → ℕ → Bool) → ℕ → ℕ → Bool
through k rows i t = rows i t || (rows i k && rows k t)

abbrev pub Joins : ℕ → ℕ → List ℕ → List ℕ → Type 0
Joins n k old new = (rows : ℕ → ℕ → Bool) → old ≡ table_of n rows → new ≡ table_of n (through k rows)

-- the reach table of every graph that a table shows
abbrev pub Reaches : List ℕ → ℕ → List ℕ → Type 0
Reaches table n new = (num : ℕ → ℕ) (dep : ℕ → ℕ → ℕ) → Shows num dep n (row_at table) → new ≡ table_of n (reach num dep n)
