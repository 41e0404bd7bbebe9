-- What is asked of a record, a level and grants, and how the call for the permitted set ends (document 01, numbers 14 and 15).
use Rattle.std.specs.Prelude.{ℕ, min, List, [], ◌∷◌, leb, replicate, Result}
use Rattle.refusal.specs.Refusal.{Outcome, answer, refuse, outcome_of}
use Rattle.refusal.specs.Checks.{Check, check, first_fault}
use Rattle.refusal.specs.declared.Refusal.{Refusal}
use Rattle.cells.specs.Rows.{each, padded}
use Rattle.positions.specs.Sets.{set_of, no_members}
use Rattle.positions.specs.declared.Set.{Set}
use Rattle.record.specs.declared.Record.{Record}
use Rattle.record.specs.Record.{most_features, feature_at}
use Rattle.record.specs.Cells.{dependency_count}
use Rattle.form.specs.WellFormed.{well_formed}
use Rattle.permitted.specs.declared.Grants.{Grants}
use Rattle.permitted.specs.declared.Examined.{Examined}
use Rattle.permitted.specs.Permitted.{hypervisor, permitted_set}

-- "14", then "15: level not 0 (user), 1 (system), 2 (hypervisor)"
unfoldable pub asked_checks : Record → ℕ → List (Check ℕ)
asked_checks r level = check (well_formed r) 14 ∷ check (leb level hypervisor) 15 ∷ []

-- how many dependencies each feature has; zeros from the count on
unfoldable pub dependency_counts : Record → List ℕ
dependency_counts r = padded most_features 0 (each (min r.count most_features) (λ (i : ℕ). dependency_count (feature_at r i)))

-- what is seen of a record before a call goes on: its permitted positions, and how many dependencies each feature has
pub record Seen : Type 0 where
  pub set : List ℕ
  pub counts : List ℕ

abbrev pub nothing_seen : Seen
nothing_seen = record { set = set_of no_members; counts = replicate most_features 0 }

unfoldable pub examined : Record → ℕ → Grants → Outcome Seen
examined r level g =
    first_fault (refuse nothing_seen) (asked_checks r level) (answer (record { set = permitted_set r level g; counts = dependency_counts r }))

abbrev pub seen_of : Examined → Seen
seen_of x = record { set = x.set.words; counts = x.counts }

abbrev pub examined_outcome : Result Examined Refusal → Outcome Seen
examined_outcome x = outcome_of seen_of nothing_seen x

-- the set of permitted positions; "beside it, zeros"
unfoldable pub permitted : Record → ℕ → Grants → Outcome (List ℕ)
permitted r level g = first_fault (refuse (set_of no_members)) (asked_checks r level) (answer (permitted_set r level g))

abbrev pub permitted_outcome : Result Set Refusal → Outcome (List ℕ)
permitted_outcome p = outcome_of (λ (s : Set). s.words) (set_of no_members) p
