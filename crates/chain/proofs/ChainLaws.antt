-- How the call for a chain ends: by the refusal of the record or the level, or by the graph of the record. Assumes nothing.
use Rattle.std.specs.Prelude.{Result}
use Rattle.refusal.specs.declared.Refusal.{Refusal}
use Prim.Native.Nat.{ℕ, min}
use mathlib.Core.Path.{◌≡◌, sym, ap, ◌∙◌}
use mathlib.Core.List.{List}
use lib.ListN.{length}
use Rattle.refusal.specs.Refusal.{Outcome, refuse}
use Rattle.refusal.specs.Checks.{fault_of}
use Rattle.refusal.proofs.Checks.{fault-some, fault-none}
use Rattle.cells.specs.Buffer.{after_writing}
use Rattle.record.specs.declared.Record.{Record}
use Rattle.record.specs.Record.{most_features}
use Rattle.permitted.specs.declared.Grants.{Grants}
use Rattle.permitted.specs.Permitted.{permitted_set}
use Rattle.permitted.specs.Asked.{asked_checks, Seen, examined}
use Rattle.permitted.proofs.AskedLaws.{numbered}
use Rattle.tables.specs.Tables.{row_at, dependency_table}
use Rattle.closure.specs.Graph.{dependencies_in, dependency_in}
use Rattle.enabled.specs.Parts.{Shows}
use Rattle.enabled.proofs.DependencyLaws.{shows-table}
use Rattle.enabled.proofs.AnswerLaws.{number-seen, form-seen, counts-seen, permitted-seen, all_seen}
use Rattle.chain.specs.Chain.{chain_in, chain_checks, chain, after_chain, chain_outcome}
use Rattle.chain.specs.Layers.{graph_checks, ShowsSome, Tells}

module _ (r : Record) (level : ℕ) (g : Grants) {o : Outcome Seen} (e : o ≡ examined r level g) where
  abbrev number : o.number ≡ fault_of (asked_checks r level)
  number = number-seen r level g e

  -- 14 or 15 decides
  module _ (ne : o.number ≡ 0 → ⊥) where
    pub asked-outcome : (i size : ℕ) → refuse 0 o.number ≡ chain r level g i size
    unfolding chain chain_checks
    asked-outcome i size = ap (λ (k : ℕ). refuse 0 k) number ∙ sym (fault-some (refuse 0) (asked_checks r level) _ _ (λ z. ne (number ∙ z)))

    pub asked-bytes : (i : ℕ) (old : List ℕ) → old ≡ after_chain r level g i old
    unfolding after_chain after_writing chain_checks
    asked-bytes i old = sym (fault-some (λ (m : ℕ). old) (asked_checks r level) _ _ (λ z. ne (number ∙ z)))

  -- neither does: the table of the record's dependencies
  module _ (none : o.number ≡ 0) {n : ℕ} (m : n ≡ min r.count most_features) {table : List ℕ} (rows : table ≡ dependency_table r.slots o.value.counts n)
    where
      all : n ≡ r.count
      all = all_seen r level g e none m

      shows : Shows (dependencies_in r) (dependency_in r) n (row_at table)
      shows = rw (rows, all) (shows-table r (form-seen r level g e none) (counts-seen r level g e none))

      pub graph-shown : ShowsSome n table
      graph-shown = record { num = dependencies_in r; dep = dependency_in r; shows = shows }

      module _ {i : ℕ} {old new : List ℕ} {t : Result ℕ Refusal} (tells : Tells table n o.value.set i old new t) where
        told : Tells table n (permitted_set r level g) i old new t
        told = rw (← permitted-seen r level g e none) tells

        pub chain-outcome : chain_outcome t ≡ chain r level g i (length old)
        unfolding chain chain_checks chain_in graph_checks
        chain-outcome =
            told.outcome (dependencies_in r) (dependency_in r) shows
            ∙ rw all (sym (fault-none (refuse 0) (asked_checks r level) _ _ (numbered r level) (sym number ∙ none)))

        pub chain-bytes : new ≡ after_chain r level g i old
        unfolding after_chain after_writing chain_checks chain_in graph_checks
        chain-bytes =
            told.bytes (dependencies_in r) (dependency_in r) shows
            ∙ rw all (sym (fault-none (λ (m : ℕ). old) (asked_checks r level) _ _ (numbered r level) (sym number ∙ none)))
