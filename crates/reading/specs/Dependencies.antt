-- Dependencies: from phandles to positions (document 01, "The feature record").
use Rattle.std.specs.Prelude.{ℕ, Bool, List, [], ◌∷◌, ◌++◌, Option, None, Some, length}
use Rattle.refusal.specs.Refusal.{Fault, fault}
use Rattle.refusal.specs.Checks.{Check, check}
use Rattle.cells.specs.Rows.{padded}
use Rattle.positions.specs.Below.{first_that, is_somewhere}
use Rattle.record.specs.Record.{most_dependencies}
use Rattle.nodes.specs.Nodes.{Node, node_at}
use Rattle.nodes.specs.Values.{value_of, cells_of}
use Rattle.reading.specs.Features.{carries}

-- the feature at a position carries a phandle
abbrev pub carries_at : List Node → ℕ → ℕ → Bool
carries_at features p i = carries p (node_at features i)

-- which feature carries a phandle: the first that does, or none
abbrev pub carrier : List Node → ℕ → Option ℕ
carrier features p = first_that (length features) (carries_at features p)

-- "otherwise 13 at the begin token of the naming feature"
unfoldable pub cell_checks : ℕ → List Node → List ℕ → List (Check Fault)
cell_checks at features [] = []
cell_checks at features (p ∷ ps) = check (is_somewhere (carrier features p)) (fault 13 at) ∷ cell_checks at features ps

-- "in tree and list order"
unfoldable pub carrier_checks : List Node → List Node → List (Check Fault)
carrier_checks features [] = []
carrier_checks features (n ∷ ns) = cell_checks n.at features (cells_of (value_of n "dependencies")) ++ carrier_checks features ns

-- what phandles resolve to: positions, or nothing, where no feature carries one of them
pub data Resolution : Type 0 where
  unknown : Resolution
  found : (positions : List ℕ) → Resolution

-- what one phandle resolves to, by its carrier
abbrev pub one_position : Option ℕ → Resolution
one_position None = unknown
one_position (Some i) = found (i ∷ [])

-- two resolutions, one behind the other; nothing where one of them is
abbrev pub followed_by : Resolution → Resolution → Resolution
followed_by unknown s = unknown
followed_by (found is) unknown = unknown
followed_by (found is) (found js) = found (is ++ js)

-- "each dependency becomes the position of the feature with that phandle"
unfoldable pub positions_of : List Node → List ℕ → Resolution
positions_of features [] = found []
positions_of features (p ∷ ps) = followed_by (one_position (carrier features p)) (positions_of features ps)

-- "16 a feature": its positions, and zero in the slots behind them
abbrev pub slot_row : Resolution → Resolution
slot_row unknown = unknown
slot_row (found is) = found (padded most_dependencies 0 is)

-- the rows of all features, one behind the other
unfoldable pub slots_of : List Node → List Node → Resolution
slots_of features [] = found []
slots_of features (n ∷ ns) = followed_by (slot_row (positions_of features (cells_of (value_of n "dependencies")))) (slots_of features ns)
