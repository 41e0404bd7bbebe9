-- The chain that is reported by slots, counts and a set that are handed in (document 01, "Permitted and enabled").
use Rattle.std.specs.Prelude.{ℕ, min, List, length}
use Rattle.refusal.specs.Refusal.{Outcome, answer, refuse}
use Rattle.refusal.specs.Checks.{Check, first_fault}
use Rattle.cells.specs.Buffer.{after_writing}
use Rattle.positions.specs.Sets.{room}
use Rattle.record.specs.Record.{most_features}
use Rattle.tables.specs.Slots.{slot_number, slot_of}
use Rattle.closure.specs.Enabled.{enabled}
use Rattle.closure.specs.Shortest.{shortest_chain}
use Rattle.closure.specs.Slots.{permitted_among}
use Rattle.chain.specs.Chain.{position_checks}

-- the chain from position i of n, where those of a set are permitted whose dependencies are among the n
unfoldable pub slot_chain : List ℕ → List ℕ → ℕ → List ℕ → ℕ → List ℕ
slot_chain slots counts n permitted i =
    shortest_chain (slot_number counts) (slot_of slots) (permitted_among slots counts n permitted) room n i

-- "16, 17, 18"; the lent buffer has some bytes
unfoldable pub slot_checks : List ℕ → List ℕ → ℕ → List ℕ → ℕ → ℕ → List (Check ℕ)
slot_checks slots counts n permitted i size =
    position_checks n i (enabled (slot_number counts) (slot_of slots) (permitted_among slots counts n permitted) n i)
    (slot_chain slots counts n permitted i) size

-- of at most 64 positions: "Its length is the number of its positions"
unfoldable pub chain_by_slots : List ℕ → List ℕ → ℕ → List ℕ → ℕ → ℕ → Outcome ℕ
chain_by_slots slots counts n permitted i size =
    first_fault (refuse 0) (slot_checks slots counts (min n most_features) permitted i size)
    (answer (length (slot_chain slots counts (min n most_features) permitted i)))

-- "one byte a position, later bytes of the buffer unchanged"; "Lent buffers keep their bytes" where it is refused
unfoldable pub after_chain_by_slots : List ℕ → List ℕ → ℕ → List ℕ → ℕ → List ℕ → List ℕ
after_chain_by_slots slots counts n permitted i old =
    after_writing (slot_checks slots counts (min n most_features) permitted i (length old)) old 0
    (slot_chain slots counts (min n most_features) permitted i)
