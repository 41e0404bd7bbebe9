-- Capability words, HFSCR and FSCR (document 01, "Permitted and enabled": "Words, from record, level and grants").
use Rattle.std.specs.Prelude.{ℕ, ◌/◌, ◌%◌, ◌^◌, Bool, false, ◌&&◌, List, eqb, ltb, get_or, Option, None, Some, Result}
use Rattle.refusal.specs.Refusal.{Outcome, answer, refuse, outcome_of}
use Rattle.refusal.specs.Checks.{first_fault}
use Rattle.refusal.specs.declared.Refusal.{Refusal}
use Rattle.positions.specs.Below.{some}
use Rattle.positions.specs.Bits.{bit}
use Rattle.positions.specs.Sets.{word_bits, has, collect}
use Rattle.record.specs.declared.Record.{Record}
use Rattle.record.specs.declared.Property.{Property}
use Rattle.record.specs.declared.Property.TheVariants.{HvSupport, OsSupport, HfscrBitNr, FscrBitNr, HwcapBitNr}
use Rattle.record.specs.Record.{feature_at}
use Rattle.record.specs.Cells.{cell, low_bit}
use Rattle.permitted.specs.declared.Grants.{Grants}
use Rattle.permitted.specs.Permitted.{system, hypervisor, permitted_set}
use Rattle.permitted.specs.Asked.{asked_checks}
use Rattle.enabled.specs.Answers.{enabled_set}
use Rattle.words.specs.declared.FeatureWords.{FeatureWords}

-- the word of 64 bits whose bits pass a test
unfoldable pub word_of : (ℕ → Bool) → ℕ
word_of p = get_or (collect 1 word_bits p) 0 0

-- a cell is given as a number
abbrev pub is_number : Option ℕ → ℕ → Bool
is_number None n = false
is_number (Some m) n = eqb m n

-- "each enabled feature sets its `hwcap-bit-nr`"
unfoldable pub capability_bit : Record → List ℕ → ℕ → Bool
capability_bit r enabled b = some r.count (λ (i : ℕ). has enabled i && is_number (cell (feature_at r i) HwcapBitNr) b)

-- bits "of enabled features whose support bit 0 is set"
unfoldable pub support_bit : Record → List ℕ → Property → Property → ℕ → Bool
support_bit r enabled support number b =
    some r.count (λ (i : ℕ). has enabled i && low_bit (cell (feature_at r i) support) && is_number (cell (feature_at r i) number) b)

-- the words beside a number: the two capability words, HFSCR and FSCR
pub record WordValues : Type 0 where
  pub first : ℕ
  pub second : ℕ
  pub hfscr : ℕ
  pub fscr : ℕ

abbrev pub no_words : WordValues
no_words = record { first = 0; second = 0; hfscr = 0; fscr = 0 }

-- "at user level"
unfoldable pub capability_word : Record → ℕ → List ℕ → ℕ
capability_word r level enabled = word_of (λ (b : ℕ). ltb level system && capability_bit r enabled b)

-- "HFSCR below hypervisor, and FSCR at user, hold the granted bits"; "Elsewhere zero"
unfoldable pub register_word : Record → ℕ → List ℕ → ℕ → Property → Property → ℕ → ℕ
register_word r level enabled upper support number granted =
    word_of (λ (b : ℕ). ltb level upper && (bit granted b && support_bit r enabled support number b))

-- of an enabled set; "(0 to 31 in the first word, 32 to 63 in the second)"
unfoldable pub words_of : Record → ℕ → Grants → List ℕ → WordValues
words_of r level g enabled = record {
  first = capability_word r level enabled % 2 ^ 32;
  second = capability_word r level enabled / 2 ^ 32;
  hfscr = register_word r level enabled hypervisor HvSupport HfscrBitNr g.hfscr;
  fscr = register_word r level enabled system OsSupport FscrBitNr g.fscr;
}

-- "from record, level and grants (14, 15)"
unfoldable pub words : Record → ℕ → Grants → Outcome WordValues
words r level g = first_fault (refuse no_words) (asked_checks r level) (answer (words_of r level g (enabled_set r (permitted_set r level g))))

-- what an answer says: the words
abbrev pub values_of : FeatureWords → WordValues
values_of w = record { first = w.hwcap_first; second = w.hwcap_second; hfscr = w.hfscr; fscr = w.fscr }

-- what a call says: the number of document 01, and the words
abbrev pub words_outcome : Result FeatureWords Refusal → Outcome WordValues
words_outcome w = outcome_of values_of no_words w
