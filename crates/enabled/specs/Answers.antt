-- The enabled set of a record (document 01, "Permitted and enabled").
use Rattle.std.specs.Prelude.{ℕ, List, Result}
use Rattle.refusal.specs.Refusal.{Outcome, answer, refuse, outcome_of}
use Rattle.refusal.specs.Checks.{first_fault}
use Rattle.refusal.specs.declared.Refusal.{Refusal}
use Rattle.positions.specs.Sets.{set_words, has, collect, set_of, no_members, member_count}
use Rattle.record.specs.declared.Record.{Record}
use Rattle.permitted.specs.declared.Grants.{Grants}
use Rattle.permitted.specs.Permitted.{permitted_set}
use Rattle.permitted.specs.Asked.{asked_checks}
use Rattle.enabled.specs.declared.Enabled.{Enabled}
use Rattle.closure.specs.Enabled.{enabled}
use Rattle.closure.specs.Graph.{dependencies_in, dependency_in}

-- "The answer holds the set and a count; the count is the number of ones in the set"
pub record Members : Type 0 where
  pub set : List ℕ
  pub count : ℕ

abbrev pub members_of : List ℕ → Members
members_of words = record { set = words; count = member_count words }

abbrev pub nobody : Members
nobody = record { set = set_of no_members; count = 0 }

-- the enabled positions of a record, where those of a set are permitted
unfoldable pub enabled_set : Record → List ℕ → List ℕ
enabled_set r permitted = collect set_words r.count (enabled (dependencies_in r) (dependency_in r) (has permitted) r.count)

-- "from record, level and grants alone": 14, 15
unfoldable pub enable : Record → ℕ → Grants → Outcome Members
enable r level g = first_fault (refuse nobody) (asked_checks r level) (answer (members_of (enabled_set r (permitted_set r level g))))

-- what an answer says: the set and the count
abbrev pub members_in : Enabled → Members
members_in e = record { set = e.set.words; count = e.count }

-- what a call says: the number of document 01, and its value
abbrev pub enabled_outcome : Result Enabled Refusal → Outcome Members
enabled_outcome e = outcome_of members_in nobody e
