-- Laws of the table of dependencies as the code builds it. Assumes nothing.
use Prim.Native.Nat.{ℕ, ◌+◌, ◌*◌, min}
use mathlib.Core.Path.{◌≡◌, refl, ap, ◌∙◌}
use mathlib.Core.Bool.{Bool}
use mathlib.Core.List.{List}
use native.Mathlib.Omega.{arith}
use lib.Dec.{eqb}
use lib.ListN.{get_or}
use Rattle.positions.specs.Below.{some}
use Rattle.positions.specs.Sets.{set_of}
use Rattle.record.specs.Record.{most_features, most_dependencies}
use Rattle.tables.specs.Tables.{table_of, dependency_table}
use Rattle.tables.specs.Parts.{slot_set}

module _ (slots counts : List ℕ) where
  -- position t is among the first slots of position i, as many as are counted, sixteen at most
  unfoldable pub in_slots : ℕ → ℕ → Bool
  in_slots i t = some (min (get_or counts i 0) most_dependencies) (λ (j : ℕ). eqb (get_or slots (most_dependencies * i + j) 0) t)

  pub slots-row : (i : ℕ) {m : ℕ} → m ≡ min (get_or counts i 0) most_dependencies → slot_set slots i m ≡ set_of (in_slots i)
  unfolding slot_set in_slots
  slots-row i e = rw e

  pub rows_all : (i n : ℕ) (table : List ℕ) → table ≡ table_of i in_slots → i ≡ min n most_features → table ≡ dependency_table slots counts n
  unfolding dependency_table in_slots
  rows_all i n table e q = e ∙ ap (λ (m : ℕ). table_of m in_slots) q

-- there are at most 64 rows
pub table-most : (slots counts : List ℕ) (m n : ℕ) → m ≡ min n most_features → dependency_table slots counts n ≡ dependency_table slots counts m
unfolding dependency_table
table-most slots counts m n e = let same : min n most_features ≡ min m most_features = omega arith in rw same refl
