-- The answer for the words, by what an examination of the record tells. Assumes nothing.
use mathlib.Core.Path.{◌≡◌, ap, ◌∙◌}
use mathlib.Core.List.{List}
use Prim.Native.Nat.{ℕ, ◌≤◌}
use Rattle.refusal.specs.Refusal.{Outcome, answer, refuse}
use Rattle.record.specs.declared.Record.{Record}
use Rattle.record.specs.Record.{most_features}
use Rattle.form.proofs.Formed.{formed}
use Rattle.permitted.specs.declared.Grants.{Grants}
use Rattle.permitted.specs.Permitted.{permitted_set}
use Rattle.permitted.specs.Asked.{Seen, examined}
use Rattle.permitted.proofs.AskedLaws.{asked-refused, asked-answered}
use Rattle.closure.specs.Slots.{closed_part}
use Rattle.enabled.specs.Answers.{enabled_set}
use Rattle.enabled.proofs.AnswerLaws.{number-seen, form-seen, closed-seen}
use Rattle.words.specs.Words.{WordValues, no_words, words_of, words}

module _ (r : Record) (level : ℕ) (g : Grants) {o : Outcome Seen} (e : o ≡ examined r level g) where
  pub words-refused : (o.number ≡ 0 → ⊥) → refuse no_words o.number ≡ words r level g
  unfolding words
  words-refused ne = asked-refused r level no_words (words_of r level g (enabled_set r (permitted_set r level g))) (number-seen r level g e) ne

  module _ (z : o.number ≡ 0) where
    pub few : r.count ≤ most_features
    few = (formed r (form-seen r level g e z)).few

    pub words-answered : {n : ℕ} {set : List ℕ} {v : WordValues} → n ≡ r.count → set ≡ closed_part r.slots o.value.counts n o.value.set
        → v ≡ words_of r level g set → answer v ≡ words r level g
    unfolding words
    words-answered m s k =
        ap answer (k ∙ ap (words_of r level g) (closed-seen r level g e z m s))
        ∙ asked-answered r level no_words (words_of r level g (enabled_set r (permitted_set r level g))) (number-seen r level g e) z
