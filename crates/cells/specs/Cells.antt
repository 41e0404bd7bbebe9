-- Cells (document 01, "The walk": "All cells are big-endian").
use Rattle.std.specs.Prelude.{ℕ, ◌+◌, ◌*◌, ◌/◌, ◌^◌, List, get_or, length}
use Rattle.cells.specs.Rows.{each}

-- the byte at a place; zero past the end
abbrev pub byte_at : List ℕ → ℕ → ℕ
byte_at s at = get_or s at 0

-- the number of the four bytes from a place on, the first the highest
unfoldable pub cell_at : List ℕ → ℕ → ℕ
cell_at s at = ((byte_at s at * 256 + byte_at s (at + 1)) * 256 + byte_at s (at + 2)) * 256 + byte_at s (at + 3)

-- "two cells, high first"
unfoldable pub word_at : List ℕ → ℕ → ℕ
word_at s at = cell_at s at * 2 ^ 32 + cell_at s (at + 4)

-- the cells of some bytes, in order
abbrev pub cells_in : List ℕ → List ℕ
cells_in s = each (length s / 4) (λ (j : ℕ). cell_at s (4 * j))
