-- What the parts of the code answer. No public promise rests on this file.
use Rattle.std.specs.Prelude.{ℕ, List, get_or}
use Rattle.cells.specs.Rows.{each}
use Rattle.sizes.specs.Sizes.{most_sizes}
use Rattle.radix.specs.Radix.{encoding_of}
use Rattle.radix.specs.declared.RadixEncoding.{RadixEncoding}

-- the encodings in a row of 16 cells
abbrev pub encodings_in : List ℕ → List RadixEncoding
encodings_in cells = each most_sizes (λ (i : ℕ). encoding_of (get_or cells i 0))
