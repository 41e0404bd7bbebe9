-- A5: "For every number and buffer, answer, refusals and written bytes are the same as before." Beside each definition of now stands the
-- one of before A5. Assumes nothing.
use mathlib.Core.Path.{◌≡◌, refl}
use mathlib.Core.Bool.{Bool, true, false}
use mathlib.Core.List.{List, [], ◌∷◌}
use Prim.Native.Nat.{ℕ, ◌+◌}
use lib.Dec.{leb}
use lib.ListN.{length}
use Rattle.refusal.specs.Refusal.{Outcome, answer, refuse}
use Rattle.refusal.specs.Checks.{check, first_fault}
use Rattle.cells.specs.Buffer.{written, after_writing}
use Rattle.unit.specs.Hex.{hex_text, digit_count, write_checks, write_hex, after_hex}
use Rattle.unit.specs.Unit.{write_unit, after_unit}

-- a buffer of `room` bytes has place for the text from `at` on
abbrev pub fits_before : ℕ → ℕ → ℕ → Bool
fits_before n at room = leb (at + digit_count n) room

-- the answer or the refusal, and the buffer afterwards
abbrev pub write_before : ℕ → ℕ → ℕ → Outcome ℕ
write_before n at room = first_fault (refuse 0) (check (fits_before n at room) 18 ∷ []) (answer (digit_count n))

abbrev pub after_before : ℕ → ℕ → List ℕ → List ℕ
after_before n at old = elim (fits_before n at (length old)) [ true ↦ written old at (hex_text n) | false ↦ old ]

-- a call that writes a number into a buffer from a place on does what it did
pub record AsBefore (write : ℕ → Outcome ℕ) (after : List ℕ → List ℕ) (n at : ℕ) : Type 0 where
  pub answers : (room : ℕ) → write room ≡ write_before n at room
  pub bytes : (old : List ℕ) → after old ≡ after_before n at old

pub hex-as-before : (n at : ℕ) → AsBefore (write_hex n at) (after_hex n at) n at
unfolding write_hex write_checks after_hex after_writing first_fault
hex-as-before n at = record { answers = λ room. refl; bytes = λ old. refl }

pub unit-as-before : (n : ℕ) → AsBefore (write_unit n) (after_unit n) n 0
unfolding write_unit after_unit
unit-as-before n = hex-as-before n 0
