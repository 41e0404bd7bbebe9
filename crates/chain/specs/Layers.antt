-- What the functions behind the chain promise: what each sweep leaves, and the way down from a position (document 01, "Permitted and enabled").
use Rattle.std.specs.Prelude.{ℕ, zero, suc, ◌≤◌, ◌<◌, ◌≡◌, Bool, true, false, ◌&&◌, List, [], ◌∷◌, length, get_or, Option, None, Some, Result, Ok, Err}
use Rattle.refusal.specs.Refusal.{answer, refuse}
use Rattle.refusal.specs.Checks.{Check, first_fault}
use Rattle.refusal.specs.declared.Refusal.{Refusal}
use Rattle.refusal.specs.declared.Refusal.TheVariants.{FeatureEnabled}
use Rattle.cells.specs.Buffer.{after_writing}
use Rattle.positions.specs.declared.Set.{Set}
use Rattle.positions.specs.Below.{first_that}
use Rattle.positions.specs.Sets.{set_words, room, has, collect, is_subset, member_outside}
use Rattle.tables.specs.Tables.{row_at}
use Rattle.closure.specs.Enabled.{enabled}
use Rattle.closure.specs.Shortest.{shortest_chain}
use Rattle.enabled.specs.Parts.{Shows}
use Rattle.chain.specs.Chain.{position_checks, chain_outcome}
use Rattle.chain.specs.declared.Layers.{Layers}

-- one sweep: the members of s below n whose rows are inside s
unfoldable pub is_left : List ℕ → List ℕ → ℕ → Bool
is_left table s i = has s i && is_subset (row_at table i) s

unfoldable pub swept : List ℕ → ℕ → List ℕ → List ℕ
swept table n s = collect set_words n (is_left table s)

-- layer k: what k sweeps leave of a set
unfoldable pub layer_at : List ℕ → ℕ → List ℕ → ℕ → List ℕ
layer_at table n permitted zero = permitted
layer_at table n permitted (suc k) = swept table n (layer_at table n permitted k)

-- the words of set k of an array
abbrev pub set_at : List Set → ℕ → List ℕ
set_at sets k = (get_or sets k (record { words = [] })).words

-- the first layers, each of which holds i; the next does not
pub record Held (table : List ℕ) (n : ℕ) (permitted : List ℕ) (i : ℕ) (l : Layers) : Type 0 where
  pub within : l.held ≤ n
  pub layers : (k : ℕ) → k < l.held → set_at l.sets k ≡ layer_at table n permitted k
  pub holds : (k : ℕ) → k < l.held → has (layer_at table n permitted k) i ≡ true
  pub out : has (layer_at table n permitted l.held) i ≡ false

-- or every one does: i is enabled
abbrev pub Falls : List ℕ → ℕ → List ℕ → ℕ → Result Layers Refusal → Type 0
Falls table n permitted i (Ok l) = Held table n permitted i l
Falls table n permitted i (Err e) = (e ≡ FeatureEnabled) × (has (layer_at table n permitted n) i ≡ true)

-- "each next is a dependency of the one before": the smallest in row i that is not in a layer; if there is one
unfoldable pub next_below : List ℕ → List ℕ → ℕ → Option ℕ
next_below table layer i = first_that room (member_outside (row_at table i) layer)

-- the positions from one on, if there is one
abbrev pub on_from : (ℕ → List ℕ) → Option ℕ → List ℕ
on_from f None = []
on_from f (Some i) = f i

-- from i, which k layers hold, down to a position that none holds; it ends where there is no next
unfoldable pub way_down : List ℕ → (ℕ → List ℕ) → ℕ → ℕ → List ℕ
way_down table layers zero i = i ∷ []
way_down table layers (suc k) i = i ∷ on_from (way_down table layers k) (next_below table (layers k) i)

-- every position of a list is below n
abbrev pub AllBelow : ℕ → List ℕ → Type 0
AllBelow n [] = Unit {0}
AllBelow n (x ∷ xs) = (x < n) × AllBelow n xs

-- what is asked of a position in a graph of n positions: "16, 17, 18"
unfoldable pub graph_checks : (ℕ → ℕ) → (ℕ → ℕ → ℕ) → ℕ → List ℕ → ℕ → ℕ → List (Check ℕ)
graph_checks num dep n permitted i size =
    position_checks n i (enabled num dep (has permitted) n i) (shortest_chain num dep (has permitted) room n i) size

-- a table shows some graph
pub record ShowsSome (n : ℕ) (table : List ℕ) : Type 0 where
  pub num : ℕ → ℕ
  pub dep : ℕ → ℕ → ℕ
  pub shows : Shows num dep n (row_at table)

-- how the call ends, and the later bytes of the lent buffer, by every graph that a table shows
pub record Tells (table : List ℕ) (n : ℕ) (permitted : List ℕ) (i : ℕ) (old new : List ℕ) (t : Result ℕ Refusal) : Type 0 where
  pub outcome : (num : ℕ → ℕ) (dep : ℕ → ℕ → ℕ) → Shows num dep n (row_at table)
      → chain_outcome t ≡ first_fault (refuse 0) (graph_checks num dep n permitted i (length old)) (answer (length (shortest_chain num dep (has permitted) room n i)))
  pub bytes : (num : ℕ → ℕ) (dep : ℕ → ℕ → ℕ) → Shows num dep n (row_at table)
      → new ≡ after_writing (graph_checks num dep n permitted i (length old)) old 0 (shortest_chain num dep (has permitted) room n i)
