-- What the functions behind the public ones are told of a record.
use Rattle.std.specs.Prelude.{ℕ, ◌<◌, ◌≡◌, List, eqb, get_or}
use Rattle.positions.specs.Below.{some}
use Rattle.positions.specs.Sets.{room, has}
use Rattle.record.specs.declared.Record.{Record}
use Rattle.closure.specs.Graph.{Below, dependencies_in}

-- the counts are those of a record's features
pub record CountsOf (r : Record) (counts : List ℕ) : Type 0 where
  pub each : (i : ℕ) → i < r.count → get_or counts i 0 ≡ dependencies_in r i

-- rows show a graph of n positions: row i has the dependencies of i, and they are below n
pub record Shows (num : ℕ → ℕ) (dep : ℕ → ℕ → ℕ) (n : ℕ) (row : ℕ → List ℕ) : Type 0 where
  pub below : Below n num dep
  pub rows : (i t : ℕ) → i < n → t < room → has (row i) t ≡ some (num i) (λ (j : ℕ). eqb (dep i j) t)
