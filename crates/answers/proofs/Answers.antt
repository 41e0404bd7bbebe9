-- Equal outcomes are equal answers, so that each promise decides its answer. Assumes nothing.
use Prim.Native.Nat.{ℕ}
use mathlib.Core.Path.{◌≡◌, ap}
use mathlib.Core.List.{List}
use Rattle.refusal.specs.Refusal.{Outcome}
use Rattle.sizes.specs.declared.SizeTable.{SizeTable}
use Rattle.segments.specs.declared.SegmentTable.{SegmentTable}
use Rattle.radix.specs.declared.RadixTable.{RadixTable}
use Rattle.attributes.specs.declared.PaTable.{PaTable}
use Rattle.attributes.specs.declared.PiTable.{PiTable}
use Rattle.enabled.specs.Answers.{Members}
use Rattle.words.specs.Words.{WordValues}
use Rattle.answers.specs.Answers.{sizes_outcome_c, segments_outcome_c, radix_outcome_c, pa_outcome_c, pi_outcome_c, bus_outcome_c, unit_outcome_c, string_place_outcome_c, permitted_outcome_c, enabled_outcome_c, reach_outcome_c, written_outcome_c, words_outcome_c}
use Rattle.answers.specs.declared.YebkuzanSizes.{YebkuzanSizes}
use Rattle.answers.specs.declared.YebkuzanSegments.{YebkuzanSegments}
use Rattle.answers.specs.declared.YebkuzanRadixEncodings.{YebkuzanRadixEncodings}
use Rattle.answers.specs.declared.YebkuzanPaFeatures.{YebkuzanPaFeatures}
use Rattle.answers.specs.declared.YebkuzanPiFeatures.{YebkuzanPiFeatures}
use Rattle.answers.specs.declared.YebkuzanBusFrequency.{YebkuzanBusFrequency}
use Rattle.answers.specs.declared.YebkuzanUnit.{YebkuzanUnit}
use Rattle.answers.specs.declared.YebkuzanStringPlace.{YebkuzanStringPlace}
use Rattle.answers.specs.declared.YebkuzanPermitted.{YebkuzanPermitted}
use Rattle.answers.specs.declared.YebkuzanEnabled.{YebkuzanEnabled}
use Rattle.answers.specs.declared.YebkuzanReach.{YebkuzanReach}
use Rattle.answers.specs.declared.YebkuzanWritten.{YebkuzanWritten}
use Rattle.answers.specs.declared.YebkuzanWords.{YebkuzanWords}

pub same-sizes : (a b : YebkuzanSizes) → sizes_outcome_c a ≡ sizes_outcome_c b → a ≡ b
same-sizes a b e = ap (λ (o : Outcome SizeTable). record { number = o.number; table = o.value }) e

pub same-segments : (a b : YebkuzanSegments) → segments_outcome_c a ≡ segments_outcome_c b → a ≡ b
same-segments a b e = ap (λ (o : Outcome SegmentTable). record { number = o.number; table = o.value }) e

pub same-radix : (a b : YebkuzanRadixEncodings) → radix_outcome_c a ≡ radix_outcome_c b → a ≡ b
same-radix a b e = ap (λ (o : Outcome RadixTable). record { number = o.number; table = o.value }) e

pub same-pa : (a b : YebkuzanPaFeatures) → pa_outcome_c a ≡ pa_outcome_c b → a ≡ b
same-pa a b e = ap (λ (o : Outcome PaTable). record { number = o.number; table = o.value }) e

pub same-pi : (a b : YebkuzanPiFeatures) → pi_outcome_c a ≡ pi_outcome_c b → a ≡ b
same-pi a b e = ap (λ (o : Outcome PiTable). record { number = o.number; table = o.value }) e

pub same-bus : (a b : YebkuzanBusFrequency) → bus_outcome_c a ≡ bus_outcome_c b → a ≡ b
same-bus a b e = ap (λ (o : Outcome ℕ). record { number = o.number; frequency = o.value }) e

pub same-unit : (a b : YebkuzanUnit) → unit_outcome_c a ≡ unit_outcome_c b → a ≡ b
same-unit a b e = ap (λ (o : Outcome ℕ). record { number = o.number; unit = o.value }) e

pub same-string-place : (a b : YebkuzanStringPlace) → string_place_outcome_c a ≡ string_place_outcome_c b → a ≡ b
same-string-place a b e = ap (λ (o : Outcome ℕ). record { number = o.number; place = o.value }) e

pub same-permitted : (a b : YebkuzanPermitted) → permitted_outcome_c a ≡ permitted_outcome_c b → a ≡ b
same-permitted a b e = ap (λ (o : Outcome (List ℕ)). record { number = o.number; set = record { words = o.value } }) e

pub same-enabled : (a b : YebkuzanEnabled) → enabled_outcome_c a ≡ enabled_outcome_c b → a ≡ b
same-enabled a b e = ap (λ (o : Outcome Members). record { number = o.number; count = o.value.count; set = record { words = o.value.set } }) e

pub same-reach : (a b : YebkuzanReach) → reach_outcome_c a ≡ reach_outcome_c b → a ≡ b
same-reach a b e = ap (λ (o : Outcome (List ℕ)). record { number = o.number; rows = record { words = o.value } }) e

pub same-written : (a b : YebkuzanWritten) → written_outcome_c a ≡ written_outcome_c b → a ≡ b
same-written a b e = ap (λ (o : Outcome ℕ). record { number = o.number; length = o.value }) e

pub same-words : (a b : YebkuzanWords) → words_outcome_c a ≡ words_outcome_c b → a ≡ b
same-words a b e =
    ap
    (λ (o : Outcome WordValues). record {
      number = o.number;
      hwcap_first = o.value.first;
      hwcap_second = o.value.second;
      hfscr = o.value.hfscr;
      fscr = o.value.fscr;
    })
    e
