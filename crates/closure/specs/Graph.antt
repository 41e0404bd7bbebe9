-- A graph of dependencies: position i has num i of them, and its j-th is dep i j; and the graph of a record.
use Rattle.std.specs.Prelude.{ℕ, ◌<◌}
use Rattle.record.specs.declared.Record.{Record}
use Rattle.record.specs.Record.{feature_at, slot_at}
use Rattle.record.specs.Cells.{dependency_count}

-- "each dependency becomes the position of the feature with that phandle": those of a position below n are below n
pub record Below (n : ℕ) (num : ℕ → ℕ) (dep : ℕ → ℕ → ℕ) : Type 0 where
  pub below : (i : ℕ) → i < n → (j : ℕ) → j < num i → dep i j < n

-- the graph of a record: how many dependencies a position has, and its j-th
abbrev pub dependencies_in : Record → ℕ → ℕ
dependencies_in r i = dependency_count (feature_at r i)

abbrev pub dependency_in : Record → ℕ → ℕ → ℕ
dependency_in r i j = slot_at r i j
