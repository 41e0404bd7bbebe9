-- Unit text of a CPU (document 01, "CPU properties and unit text"), and the outcomes of this crate's answers.
use Rattle.std.specs.Prelude.{ℕ, ◌^◌, ◌-◌, List, length, take, Result}
use Rattle.refusal.specs.declared.Refusal.{Refusal}
use Rattle.refusal.specs.Refusal.{Outcome, outcome_of}
use Rattle.unit.specs.Hex.{read_hex, write_hex, after_hex}

-- "A unit text is hex, either case, leading zeros allowed, below 2^32 (20 before 12)"
unfoldable pub read_unit : List ℕ → Outcome ℕ
read_unit text = read_hex (2 ^ 32 - 1) text

-- "written lower-case and shortest", at the front of the lent buffer
unfoldable pub write_unit : ℕ → ℕ → Outcome ℕ
write_unit number room = write_hex number 0 room

unfoldable pub after_unit : ℕ → List ℕ → List ℕ
after_unit number old = after_hex number 0 old

-- the bytes that a number's writing puts into a buffer
abbrev pub text_written : ℕ → List ℕ → List ℕ
text_written n old = take (write_unit n (length old)).value (after_unit n old)

-- what each answer says: the number of document 01, and the value
abbrev pub hex_outcome : Result ℕ Refusal → Outcome ℕ
hex_outcome = outcome_of (λ n. n) 0

abbrev pub unit_outcome : Result ℕ Refusal → Outcome ℕ
unit_outcome = outcome_of (λ n. n) 0

abbrev pub length_outcome : Result ℕ Refusal → Outcome ℕ
length_outcome = outcome_of (λ n. n) 0
