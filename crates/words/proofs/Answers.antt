-- Equal outcomes are equal answers, so that the promise decides the answer. Assumes nothing.
use mathlib.Core.Path.{◌≡◌, ap}
use Rattle.std.specs.Prelude.{Result}
use Rattle.refusal.proofs.Numbers.{same-outcome}
use Rattle.refusal.specs.declared.Refusal.{Refusal}
use Rattle.words.specs.Words.{WordValues, no_words, values_of, words_outcome}
use Rattle.words.specs.declared.FeatureWords.{FeatureWords}

pub same-words : (a b : Result FeatureWords Refusal) → words_outcome a ≡ words_outcome b → a ≡ b
same-words =
    same-outcome values_of no_words
    (λ a b e. ap (λ (v : WordValues). record { hwcap_first = v.first; hwcap_second = v.second; hfscr = v.hfscr; fscr = v.fscr }) e)
