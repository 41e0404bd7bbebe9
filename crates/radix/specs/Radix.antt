-- `ibm,processor-radix-AP-encodings` (document 02, A13): "1 to 16 cells", each the AP encoding and the exponent of a page size.
use Rattle.std.specs.Prelude.{ℕ, ◌/◌, ◌%◌, List, map, length, replicate, Result}
use Rattle.cells.specs.Cells.{cells_in}
use Rattle.cells.specs.Rows.{padded}
use Rattle.refusal.specs.declared.Refusal.{Refusal}
use Rattle.refusal.specs.Refusal.{Outcome, answer, refuse, outcome_of}
use Rattle.refusal.specs.Checks.{first_fault}
use Rattle.sizes.specs.Sizes.{most_sizes, ap_bit, radix_size, size_checks}
use Rattle.radix.specs.declared.RadixEncoding.{RadixEncoding}
use Rattle.radix.specs.declared.RadixTable.{RadixTable}

-- "the AP field; in our hosts it is the top three bits of the cell, the page exponent the other 29"
abbrev pub encoding_of : ℕ → RadixEncoding
encoding_of n = record { ap = n / ap_bit; exponent = n % ap_bit }

abbrev pub no_encoding : RadixEncoding
no_encoding = record { ap = 0; exponent = 0 }

-- encodings, and zeros
unfoldable pub radix_table : List RadixEncoding → RadixTable
radix_table encodings = record { count = length encodings; encodings = padded most_sizes no_encoding encodings }

unfoldable pub no_encodings : RadixTable
no_encodings = record { count = 0; encodings = replicate most_sizes no_encoding }

-- "Exponents ascend strictly, at most 63. .. 11, 8, 12, 19 as for page sizes"
unfoldable pub radix_encodings : List ℕ → Outcome RadixTable
radix_encodings value = first_fault (refuse no_encodings) (size_checks radix_size value) (answer (radix_table (map encoding_of (cells_in value))))

-- what an answer says: the number of document 01, and the table
abbrev pub radix_outcome : Result RadixTable Refusal → Outcome RadixTable
radix_outcome = outcome_of (λ t. t) no_encodings
