-- The answers of the calls. Assumes nothing.
use Prim.Native.Nat.{ℕ, min}
use mathlib.Core.Path.{◌≡◌, refl, sym, ap, ap₂, subst, ◌∙◌}
use mathlib.Core.Bool.{Bool, true, false}
use mathlib.Core.List.{List}
use native.Mathlib.Omega.{arith}
use lib.ListN.{replicate}
use Rattle.refusal.specs.Refusal.{Outcome, answer, refuse}
use Rattle.refusal.proofs.Checks.{passes, stops}
use Rattle.record.specs.declared.Record.{Record}
use Rattle.record.specs.Record.{most_features}
use Rattle.form.specs.WellFormed.{well_formed}
use Rattle.permitted.specs.declared.Grants.{Grants}
use Rattle.permitted.specs.Permitted.{permitted_set}
use Rattle.permitted.specs.Asked.{Seen, examined}
use Rattle.permitted.proofs.AskedLaws.{not-formed, all-good, asked-refused, asked-answered}
use Rattle.tables.specs.Tables.{table_words, dependency_table, rows_inside}
use Rattle.closure.specs.Graph.{dependencies_in, dependency_in}
use Rattle.enabled.specs.Parts.{CountsOf}
use Rattle.enabled.specs.Answers.{Members, members_of, nobody}
use Rattle.enabled.proofs.DependencyLaws.{shows-table}
use Rattle.enabled.proofs.AnswerLaws.{number-seen, form-seen, counts-seen, permitted-seen, all_seen}
use Rattle.reach.specs.Parts.{Reaches}
use Rattle.reach.specs.Answers.{reach_table, reach_of, enabled_by_table, enable_by_table}

-- what the reach table has
module _ (r : Record) (e : well_formed r ≡ true) {counts : List ℕ} (k : CountsOf r counts) {s : List ℕ} where
  record-reached : {table : List ℕ} → table ≡ dependency_table r.slots counts r.count → Reaches table r.count s
      → answer s ≡ reach_of r
  unfolding reach_of reach_table
  record-reached q f =
      ap answer (f (dependencies_in r) (dependency_in r) (rw q (shows-table r e k)))
      ∙ sym (passes (refuse (replicate table_words 0)) _ _ (rw e tt, tt))

record-refused : (r : Record) → well_formed r ≡ false → refuse (replicate table_words 0) 14 ≡ reach_of r
unfolding reach_of
record-refused r e = sym (stops (refuse (replicate table_words 0)) 0 0 _ _ (rw e tt))

-- the enabled set by a table, by the number that was found
module _ (r : Record) (level : ℕ) (g : Grants) {o : Outcome Seen} (e : o ≡ examined r level g) {x : Outcome Members} where
  pub table-refused : (o.number ≡ 0 → ⊥) → x ≡ refuse nobody o.number → (table : List ℕ) → x ≡ enable_by_table r table level g
  unfolding enable_by_table
  table-refused ne q table = q ∙ asked-refused r level nobody (members_of (enabled_by_table r table (permitted_set r level g))) (number-seen r level g e) ne

  pub table-answered : (z : o.number ≡ 0) {s : List ℕ} → x ≡ answer (members_of s) → (table : List ℕ)
      → s ≡ rows_inside table (min r.count most_features) o.value.set → x ≡ enable_by_table r table level g
  unfolding enable_by_table enabled_by_table rows_inside
  table-answered z q table l =
      q
      ∙ ap (λ (words : List ℕ). answer (members_of words)) (l ∙ ap₂ (rows_inside table) (all_seen r level g e z refl) (permitted-seen r level g e z))
      ∙ asked-answered r level nobody (members_of (enabled_by_table r table (permitted_set r level g))) (number-seen r level g e) z

-- the reach table is asked at user level
module _ (r : Record) (g : Grants) {o : Outcome Seen} (e : o ≡ examined r 0 g) where
  pub reach-refused : (o.number ≡ 0 → ⊥) → refuse (replicate table_words 0) o.number ≡ reach_of r
  reach-refused ne = go (well_formed r) refl
    where
      go : (b : Bool) → well_formed r ≡ b → refuse (replicate table_words 0) o.number ≡ reach_of r
      go true q = absurd (ne (number-seen r 0 g e ∙ sym (all-good r 0 q (omega arith))))
      go false q = ap (refuse (replicate table_words 0)) (number-seen r 0 g e ∙ sym (not-formed r 0 q)) ∙ record-refused r q

  pub reach-answered : (z : o.number ≡ 0) {n : ℕ} {table s : List ℕ} → n ≡ min r.count most_features
      → table ≡ dependency_table r.slots o.value.counts n → Reaches table n s → answer s ≡ reach_of r
  reach-answered z {n} {table} {s} k t f =
      let all = all_seen r 0 g e z k in
      record-reached r (form-seen r 0 g e z) (counts-seen r 0 g e z) (t ∙ ap (dependency_table r.slots o.value.counts) all)
      (subst (λ (m : ℕ). Reaches table m s) all f)
