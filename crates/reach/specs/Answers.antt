-- The reach table of a record, and the enabled set by a table (document 01, "Permitted and enabled").
use Rattle.std.specs.Prelude.{ℕ, List, [], ◌∷◌, replicate, Result}
use Rattle.refusal.specs.Refusal.{Outcome, answer, refuse, outcome_of}
use Rattle.refusal.specs.Checks.{check, first_fault}
use Rattle.refusal.specs.declared.Refusal.{Refusal}
use Rattle.positions.specs.Sets.{set_words, room, has, collect}
use Rattle.record.specs.declared.Record.{Record}
use Rattle.form.specs.WellFormed.{well_formed}
use Rattle.permitted.specs.declared.Grants.{Grants}
use Rattle.permitted.specs.Permitted.{permitted_set}
use Rattle.permitted.specs.Asked.{asked_checks}
use Rattle.tables.specs.declared.Rows.{Rows}
use Rattle.tables.specs.Tables.{in_row, table_words, table_of}
use Rattle.closure.specs.Graph.{dependencies_in, dependency_in}
use Rattle.closure.specs.Reach.{reach, enabled_by_reach}
use Rattle.enabled.specs.Answers.{Members, members_of, nobody}

-- "for each feature itself and all it needs, directly or not": 14
unfoldable pub reach_table : Record → List ℕ
reach_table r = table_of r.count (reach (dependencies_in r) (dependency_in r) r.count)

unfoldable pub reach_of : Record → Outcome (List ℕ)
reach_of r = first_fault (refuse (replicate table_words 0)) (check (well_formed r) 14 ∷ []) (answer (reach_table r))

-- "The quick road enables a feature when its row holds only permitted ones, in any rows it is handed": 14, 15
unfoldable pub enabled_by_table : Record → List ℕ → List ℕ → List ℕ
enabled_by_table r table permitted = collect set_words r.count (enabled_by_reach (in_row table) (has permitted) room)

unfoldable pub enable_by_table : Record → List ℕ → ℕ → Grants → Outcome Members
enable_by_table r table level g =
    first_fault (refuse nobody) (asked_checks r level) (answer (members_of (enabled_by_table r table (permitted_set r level g))))

-- what a call says: the number of document 01, and its value
abbrev pub reach_outcome : Result Rows Refusal → Outcome (List ℕ)
reach_outcome t = outcome_of (λ (rows : Rows). rows.words) (replicate table_words 0) t
