-- What the functions promise that build a table or a set, row by row.
use Rattle.std.specs.Prelude.{ℕ, ◌*◌, cond, List, eqb, ltb}
use Rattle.std.proofs.lemmas.List.Edits.{sets}
use Rattle.positions.specs.Below.{some}
use Rattle.positions.specs.Sets.{set_words, set_of, with_member, is_subset}
use Rattle.record.specs.Record.{most_features}
use Rattle.tables.specs.Slots.{slot_of}

-- a table with the words of row i replaced
unfoldable pub with_row : List ℕ → ℕ → List ℕ → List ℕ
with_row table i words = sets table (set_words * i) words

-- the same; a table has 64 rows, and stays as it is for one past the last
unfoldable pub row_put : List ℕ → ℕ → List ℕ → List ℕ
row_put table i words = cond (ltb i most_features) (with_row table i words) table

-- the set of the first n slots of position i
unfoldable pub slot_set : List ℕ → ℕ → ℕ → List ℕ
slot_set slots i n = set_of (λ (t : ℕ). some n (λ (j : ℕ). eqb (slot_of slots i j) t))

-- a set with i where a row is inside another set
unfoldable pub added_in : List ℕ → List ℕ → List ℕ → ℕ → List ℕ
added_in s row permitted i = cond (is_subset row permitted) (with_member s i) s
