-- `ibm,pa-features`, `ibm,pi-features` and `ibm,extended-bus-frequency` (document 01, "CPU properties and unit text").
use Rattle.std.specs.Prelude.{ℕ, zero, suc, ◌+◌, ◌-◌, ◌/◌, true, false, cond, List, [], ◌∷◌, ◌++◌, leb, ltb, eqb, length, take, drop, replicate, Result}
use Rattle.cells.specs.Cells.{byte_at, word_at}
use Rattle.refusal.specs.declared.Refusal.{Refusal}
use Rattle.refusal.specs.Refusal.{Outcome, answer, refuse, outcome_of}
use Rattle.refusal.specs.Checks.{Check, check, first_fault}
use Rattle.cells.specs.Rows.{each, padded}
use Rattle.attributes.specs.declared.PaTable.{PaTable}
use Rattle.attributes.specs.declared.PiTable.{PiTable}

-- "length byte (1 to 254)"
abbrev pub most_bytes : ℕ
most_bytes = 254

-- "descriptors of length byte (1 to 254), type byte, then that many bytes"
module _ (value : List ℕ) (at : ℕ) where
  abbrev pub length_at : ℕ
  length_at = byte_at value at

  abbrev pub type_at : ℕ
  type_at = byte_at value (at + 1)

  abbrev pub bytes_at : List ℕ
  bytes_at = take length_at (drop (at + 2) value)

  -- where the next descriptor begins
  abbrev pub next_at : ℕ
  next_at = at + 2 + length_at

-- "At each, in this order: .. a header cut short 11, .. a length byte of 0 or 255 is 12, .. contents cut short 11"
unfoldable pub descriptor_checks : List ℕ → ℕ → List (Check ℕ)
descriptor_checks value at =
    check (leb (at + 2) (length value)) 11
    ∷ check (ltb 0 (length_at value at)) 12
    ∷ check (leb (length_at value at) most_bytes) 12
    ∷ check (leb (next_at value at) (length value)) 11
    ∷ []

-- "Descriptors are read from the front", here from `at` on, until the value ends; the first argument bounds how many
unfoldable pub checks_from : ℕ → List ℕ → ℕ → List (Check ℕ)
checks_from zero value at = []
checks_from (suc most) value at =
    elim (ltb at (length value)) [ true ↦ descriptor_checks value at ++ checks_from most value (next_at value at) | false ↦ [] ]

abbrev pub if_type_zero : ℕ → List ℕ → List (List ℕ) → List (List ℕ)
if_type_zero zero bytes rest = bytes ∷ rest
if_type_zero (suc t) bytes rest = rest

-- the bytes of the descriptors of type 0; "others skipped"
unfoldable pub type_zero_from : ℕ → List ℕ → ℕ → List (List ℕ)
type_zero_from zero value at = []
type_zero_from (suc most) value at =
    elim (ltb at (length value))
    [ true ↦ if_type_zero (type_at value at) (bytes_at value at) (type_zero_from most value (next_at value at)) | false ↦ [] ]

-- a descriptor has three bytes or more, so there are fewer than the value has bytes
abbrev pub type_zero : List ℕ → List (List ℕ)
type_zero value = type_zero_from (length value) value 0

-- "One of type 0 is used, none is 10, two are 9"
unfoldable pub type_checks : List ℕ → List (Check ℕ)
type_checks value = check (ltb 0 (length (type_zero value))) 10 ∷ check (leb (length (type_zero value)) 1) 9 ∷ []

-- "at least one (none is 11)"; "Types are looked at last"
unfoldable pub attribute_checks : List ℕ → List (Check ℕ)
attribute_checks value = check (ltb 0 (length value)) 11 ∷ (checks_from (length value) value 0 ++ type_checks value)

abbrev pub first_of : List (List ℕ) → List ℕ
first_of [] = []
first_of (bs ∷ rest) = bs

-- the bytes that are used
unfoldable pub attribute_bytes : List ℕ → List ℕ
attribute_bytes value = first_of (type_zero value)

-- "the top bit", 0 or 1
abbrev pub top_bit : ℕ → ℕ
top_bit b = b / 128

-- A13 of document 02: "in 1 bytes 24 to 253 are handed on raw too"; in edition 0, "bytes from 24 are ignored"
abbrev pub first_later : ℕ
first_later = 24

unfoldable pub later_bytes : List ℕ → List ℕ
later_bytes bytes = padded (most_bytes - first_later) 0 (drop first_later bytes)

-- "the top bit of byte 6 means data streams 2.07, of 16 vector, 18 vector scalar, 20 vector crypto, 22 transactional memory; bytes 8
-- to 15 are the coprocessor word. Bytes not supplied read as zero; reserved bits .. are ignored; bytes 0 to 5 are handed on raw"; A13:
-- "bytes 24 to 253 are handed on raw too, and the top bit of byte 38 means copy and paste, of 40 radix translation, of 64 a second watchpoint"
unfoldable pub pa_table : List ℕ → PaTable
pa_table bytes = record {
  raw = each 6 (byte_at bytes);
  data_streams = top_bit (byte_at bytes 6);
  vector = top_bit (byte_at bytes 16);
  vector_scalar = top_bit (byte_at bytes 18);
  vector_crypto = top_bit (byte_at bytes 20);
  transactional_memory = top_bit (byte_at bytes 22);
  copy_paste = top_bit (byte_at bytes 38);
  radix_translation = top_bit (byte_at bytes 40);
  second_watchpoint = top_bit (byte_at bytes 64);
  coprocessor = word_at bytes 8;
  raw_later = later_bytes bytes;
}

-- A13: "The caller names the edition"
abbrev pub edition_first : ℕ
edition_first = 0

abbrev pub edition_later : ℕ
edition_later = 1

-- the bytes that an edition knows: "0 behaves as before", where "bytes from 24 are ignored"; in 1 all
unfoldable pub known_bytes : ℕ → List ℕ → List ℕ
known_bytes edition bytes = cond (eqb edition edition_first) (take first_later bytes) bytes

-- A13: "15 also for an unknown edition, before all else"
unfoldable pub pa_checks : ℕ → List ℕ → List (Check ℕ)
pa_checks edition value = check (leb edition edition_later) 15 ∷ attribute_checks value

unfoldable pub no_attributes : PaTable
no_attributes = record {
  raw = replicate 6 0;
  data_streams = 0;
  vector = 0;
  vector_scalar = 0;
  vector_crypto = 0;
  transactional_memory = 0;
  copy_paste = 0;
  radix_translation = 0;
  second_watchpoint = 0;
  coprocessor = 0;
  raw_later = replicate (most_bytes - first_later) 0;
}

unfoldable pub pa_features : ℕ → List ℕ → Outcome PaTable
pa_features edition value = first_fault (refuse no_attributes) (pa_checks edition value) (answer (pa_table (known_bytes edition (attribute_bytes value))))

-- "hands on all its bytes raw, with zeros up to 254, and their number"
unfoldable pub pi_table : List ℕ → PiTable
pi_table bytes = record { count = length bytes; bytes = padded most_bytes 0 bytes }

unfoldable pub pi_features : List ℕ → Outcome PiTable
pi_features value = first_fault (refuse (pi_table [])) (attribute_checks value) (answer (pi_table (attribute_bytes value)))

-- "two cells, high first"; "length first (11)"
unfoldable pub bus_frequency : List ℕ → Outcome ℕ
bus_frequency value = first_fault (refuse 0) (check (eqb (length value) 8) 11 ∷ []) (answer (word_at value 0))

-- what each answer says: the number of document 01, and the value
abbrev pub pa_outcome : Result PaTable Refusal → Outcome PaTable
pa_outcome = outcome_of (λ t. t) no_attributes

abbrev pub pi_outcome : Result PiTable Refusal → Outcome PiTable
pi_outcome = outcome_of (λ t. t) (pi_table [])

abbrev pub bus_outcome : Result ℕ Refusal → Outcome ℕ
bus_outcome = outcome_of (λ n. n) 0
