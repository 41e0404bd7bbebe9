-- What the answers for C say: the number of document 01, and a value.
use Rattle.std.specs.Prelude.{ℕ, List, ◌≡◌, Option, Some, None, Result, Ok, Err}
use Rattle.refusal.specs.Refusal.{Outcome, answer, refuse, number_of}
use Rattle.refusal.specs.declared.Refusal.{Refusal}
use Rattle.sizes.specs.declared.SizeTable.{SizeTable}
use Rattle.segments.specs.declared.SegmentTable.{SegmentTable}
use Rattle.radix.specs.declared.RadixTable.{RadixTable}
use Rattle.attributes.specs.declared.PaTable.{PaTable}
use Rattle.attributes.specs.declared.PiTable.{PiTable}
use Rattle.enabled.specs.Answers.{Members}
use Rattle.words.specs.Words.{WordValues}
use Rattle.answers.specs.declared.YebkuzanSizes.{YebkuzanSizes}
use Rattle.answers.specs.declared.YebkuzanSegments.{YebkuzanSegments}
use Rattle.answers.specs.declared.YebkuzanRadixEncodings.{YebkuzanRadixEncodings}
use Rattle.answers.specs.declared.YebkuzanPaFeatures.{YebkuzanPaFeatures}
use Rattle.answers.specs.declared.YebkuzanPiFeatures.{YebkuzanPiFeatures}
use Rattle.answers.specs.declared.YebkuzanBusFrequency.{YebkuzanBusFrequency}
use Rattle.answers.specs.declared.YebkuzanUnit.{YebkuzanUnit}
use Rattle.answers.specs.declared.YebkuzanStringPlace.{YebkuzanStringPlace}
use Rattle.answers.specs.declared.YebkuzanPermitted.{YebkuzanPermitted}
use Rattle.answers.specs.declared.YebkuzanEnabled.{YebkuzanEnabled}
use Rattle.answers.specs.declared.YebkuzanReach.{YebkuzanReach}
use Rattle.answers.specs.declared.YebkuzanWritten.{YebkuzanWritten}
use Rattle.answers.specs.declared.YebkuzanWords.{YebkuzanWords}

-- an outcome's number and value: 0 and the answer, or the number of the refusal and zeros
abbrev pub IsNumbered : {A : Type 0} → (A → Type 0) → Result A Refusal → ℕ → A → Type 0
IsNumbered zeros (Ok a) number value = (number ≡ 0) × (value ≡ a)
IsNumbered zeros (Err e) number value = (number ≡ number_of e) × zeros value

-- an outcome's value: the answer, or zeros
abbrev pub value_in : {A : Type 0} → A → Result A Refusal → A
value_in zeros (Ok a) = a
value_in zeros (Err e) = zeros

abbrev pub sizes_outcome_c : YebkuzanSizes → Outcome SizeTable
sizes_outcome_c t = record { number = t.number; value = t.table }

abbrev pub segments_outcome_c : YebkuzanSegments → Outcome SegmentTable
segments_outcome_c t = record { number = t.number; value = t.table }

abbrev pub radix_outcome_c : YebkuzanRadixEncodings → Outcome RadixTable
radix_outcome_c t = record { number = t.number; value = t.table }

abbrev pub pa_outcome_c : YebkuzanPaFeatures → Outcome PaTable
pa_outcome_c t = record { number = t.number; value = t.table }

abbrev pub pi_outcome_c : YebkuzanPiFeatures → Outcome PiTable
pi_outcome_c t = record { number = t.number; value = t.table }

abbrev pub bus_outcome_c : YebkuzanBusFrequency → Outcome ℕ
bus_outcome_c t = record { number = t.number; value = t.frequency }

abbrev pub unit_outcome_c : YebkuzanUnit → Outcome ℕ
unit_outcome_c u = record { number = u.number; value = u.unit }

abbrev pub string_place_outcome_c : YebkuzanStringPlace → Outcome ℕ
string_place_outcome_c s = record { number = s.number; value = s.place }

-- (A3) a place, or 10: "that it doesn't stand there"
abbrev pub place_outcome : Option ℕ → Outcome ℕ
place_outcome (Some place) = answer place
place_outcome None = refuse 0 10

abbrev pub permitted_outcome_c : YebkuzanPermitted → Outcome (List ℕ)
permitted_outcome_c p = record { number = p.number; value = p.set.words }

abbrev pub enabled_outcome_c : YebkuzanEnabled → Outcome Members
enabled_outcome_c e = record { number = e.number; value = record { set = e.set.words; count = e.count } }

abbrev pub reach_outcome_c : YebkuzanReach → Outcome (List ℕ)
reach_outcome_c t = record { number = t.number; value = t.rows.words }

abbrev pub written_outcome_c : YebkuzanWritten → Outcome ℕ
written_outcome_c w = record { number = w.number; value = w.length }

abbrev pub words_outcome_c : YebkuzanWords → Outcome WordValues
words_outcome_c w = record {
  number = w.number;
  value = record { first = w.hwcap_first; second = w.hwcap_second; hfscr = w.hfscr; fscr = w.fscr };
}
