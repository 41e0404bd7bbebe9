-- The chain that is reported for a feature left out (document 01, "Permitted and enabled").
use Rattle.std.specs.Prelude.{ℕ, Bool, not, List, [], ◌∷◌, ◌++◌, leb, ltb, length, Result}
use Rattle.refusal.specs.Refusal.{Outcome, answer, refuse, outcome_of}
use Rattle.refusal.specs.Checks.{Check, check, first_fault}
use Rattle.refusal.specs.declared.Refusal.{Refusal}
use Rattle.cells.specs.Buffer.{after_writing}
use Rattle.positions.specs.Sets.{room, has}
use Rattle.record.specs.declared.Record.{Record}
use Rattle.permitted.specs.declared.Grants.{Grants}
use Rattle.permitted.specs.Permitted.{permitted_set}
use Rattle.permitted.specs.Asked.{asked_checks}
use Rattle.closure.specs.Enabled.{enabled}
use Rattle.closure.specs.Shortest.{shortest_chain}
use Rattle.closure.specs.Graph.{dependencies_in, dependency_in}

-- whether a position is enabled, where those of a set are permitted
abbrev pub is_enabled : Record → List ℕ → ℕ → Bool
is_enabled r permitted i = enabled (dependencies_in r) (dependency_in r) (has permitted) r.count i

-- "The shortest is given"; "the one with the smallest positions"
unfoldable pub chain_in : Record → List ℕ → ℕ → List ℕ
chain_in r permitted i = shortest_chain (dependencies_in r) (dependency_in r) (has permitted) room r.count i

-- "16, 17, 18": what is asked of position i of n, which is enabled or not, where a chain from it is to be written into some bytes
abbrev pub position_checks : ℕ → ℕ → Bool → List ℕ → ℕ → List (Check ℕ)
position_checks n i on told size = check (ltb i n) 16 ∷ check (not on) 17 ∷ check (leb (length told) size) 18 ∷ []

-- "Order: 14, 15, 16, 17, 18"; the lent buffer has some bytes
unfoldable pub chain_checks : Record → ℕ → Grants → ℕ → ℕ → List (Check ℕ)
chain_checks r level g i size =
    asked_checks r level
    ++ position_checks r.count i (is_enabled r (permitted_set r level g) i) (chain_in r (permitted_set r level g) i) size

-- "Its length is the number of its positions"
unfoldable pub chain : Record → ℕ → Grants → ℕ → ℕ → Outcome ℕ
chain r level g i size = first_fault (refuse 0) (chain_checks r level g i size) (answer (length (chain_in r (permitted_set r level g) i)))

-- "one byte a position, later bytes of the buffer unchanged"; "Lent buffers keep their bytes" where it is refused
unfoldable pub after_chain : Record → ℕ → Grants → ℕ → List ℕ → List ℕ
after_chain r level g i old =
    after_writing (chain_checks r level g i (length old)) old 0 (chain_in r (permitted_set r level g) i)

-- what a call says: the number of document 01, and its value
abbrev pub chain_outcome : Result ℕ Refusal → Outcome ℕ
chain_outcome t = outcome_of (λ (n : ℕ). n) 0 t
