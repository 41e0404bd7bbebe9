-- Numbers as hexadecimal text, over the largest number allowed (document 01, "CPU properties and unit text" and refusal 20).
use Rattle.std.specs.Prelude.{ℕ, zero, suc, ◌+◌, ◌*◌, ◌/◌, true, false, List, [], ◌∷◌, ◌++◌, leb, ltb, length, Some, None}
use Rattle.characters.specs.Characters.{hex_value, hex_digit}
use Rattle.cells.specs.Buffer.{after_writing}
use Rattle.refusal.specs.Refusal.{Outcome, answer, refuse}
use Rattle.refusal.specs.Checks.{Check, check, first_fault}

-- "above 16 characters"
abbrev pub most_digits : ℕ
most_digits = 16

-- what a text stands for: a number, or none, where a character is no hex digit
pub data HexNumber : Type 0 where
  some_number : (n : ℕ) → HexNumber
  no_number : HexNumber

-- a run of digits that follows the digits of `high`
unfoldable pub hex_after : ℕ → List ℕ → HexNumber
hex_after high [] = some_number high
hex_after high (c ∷ cs) = elim (hex_value c) [ Some v ↦ hex_after (high * 16 + v) cs | None ↦ no_number ]

abbrev pub hex_number : List ℕ → HexNumber
hex_number text = hex_after 0 text

-- what is asked of a text that stands for a number: "empty, above 16 characters" (20), above the largest (12); "20 before 12"
unfoldable pub hex_checks : ℕ → List ℕ → ℕ → List (Check ℕ)
hex_checks largest text n =
    check (ltb 0 (length text)) 20
    ∷ check (leb (length text) most_digits) 20
    ∷ check (leb n largest) 12
    ∷ []

-- and where it stands for none: "or a character that is no hex digit" (20)
abbrev pub read_number : ℕ → List ℕ → HexNumber → Outcome ℕ
read_number largest text (some_number n) = first_fault (refuse 0) (hex_checks largest text n) (answer n)
read_number largest text no_number = refuse 0 20

-- the number that a text stands for
unfoldable pub read_hex : ℕ → List ℕ → Outcome ℕ
read_hex largest text = read_number largest text (hex_number text)

-- the digits of a number, lower-case and with no leading zero; there are at most as many as the first argument says
unfoldable pub digits_of : ℕ → ℕ → List ℕ
digits_of zero n = []
digits_of (suc most) n = elim (ltb n 16) [ true ↦ hex_digit n ∷ [] | false ↦ digits_of most (n / 16) ++ (hex_digit n ∷ []) ]

-- "written lower-case and shortest": a number has fewer digits than it has units, or one
unfoldable pub hex_text : ℕ → List ℕ
hex_text n = digits_of (suc n) n

unfoldable pub digit_count : ℕ → ℕ
digit_count n = length (hex_text n)

-- what is asked of a buffer of some bytes, into which the text is written from place `at` on: "the lent buffer is shorter than what is to
-- be written" (18)
unfoldable pub write_checks : ℕ → ℕ → ℕ → List (Check ℕ)
write_checks n at room = check (leb (at + digit_count n) room) 18 ∷ []

-- the number of bytes written
unfoldable pub write_hex : ℕ → ℕ → ℕ → Outcome ℕ
write_hex n at room = first_fault (refuse 0) (write_checks n at room) (answer (digit_count n))

-- the buffer afterwards; a refusal leaves it
unfoldable pub after_hex : ℕ → ℕ → List ℕ → List ℕ
after_hex n at old = after_writing (write_checks n at (length old)) old at (hex_text n)
