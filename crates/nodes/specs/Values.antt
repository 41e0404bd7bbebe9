-- The values of a node's properties (document 01, "The feature record").
use Rattle.std.specs.Prelude.{ℕ, ◌%◌, Bool, true, false, List, [], ◌∷◌, eqb, length}
use Prim.Native.String.{String}
use Rattle.characters.specs.Characters.{bytes}
use Rattle.cells.specs.Cells.{cell_at, cells_in}
use Rattle.strings.specs.Strings.{ended}
use Rattle.names.specs.Names.{same_text}
use Rattle.positions.specs.Bits.{bit}
use Rattle.tokens.specs.Steps.{pick}
use Rattle.tokens.specs.Tokens.{Token, begin_node, end_node, property, nop, end, fault}
use Rattle.nodes.specs.Nodes.{Node}

-- what a node has of a property
pub data Value : Type 0 where
  missing : Value
  value : (bytes : List ℕ) → Value

-- the property of a name among those that some tokens begin with
unfoldable pub value_in : List ℕ → List Token → Value
value_in n [] = missing
value_in n (property at name bytes ∷ ts) = pick (same_text name (ended n)) (value bytes) (value_in n ts)
value_in n (nop at ∷ ts) = value_in n ts
value_in n (begin_node at name ∷ ts) = missing
value_in n (end_node at ∷ ts) = missing
value_in n (end at ∷ ts) = missing
value_in n (fault at ∷ ts) = missing

abbrev pub value_of : Node → String → Value
value_of n name = value_in (bytes name) n.behind

abbrev pub is_given : Value → Bool
is_given missing = false
is_given (value bs) = true

-- its bytes; none where it is missing
abbrev pub bytes_of : Value → List ℕ
bytes_of missing = []
bytes_of (value bs) = bs

-- "required, one cell"
abbrev pub is_cell : Value → Bool
is_cell missing = false
is_cell (value bs) = eqb (length bs) 4

-- "optional, one cell"
abbrev pub is_cell_or_missing : Value → Bool
is_cell_or_missing missing = true
is_cell_or_missing (value bs) = eqb (length bs) 4

-- "optional, whole cells"
abbrev pub is_cells : Value → Bool
is_cells missing = true
is_cells (value bs) = eqb (length bs % 4) 0

-- the number of its first cell; zero where it is missing
abbrev pub number : Value → ℕ
number missing = 0
number (value bs) = cell_at bs 0

-- bit 0 of its first cell
abbrev pub low_bit : Value → Bool
low_bit v = bit (number v) 0

-- its cells
abbrev pub cells_of : Value → List ℕ
cells_of missing = []
cells_of (value bs) = cells_in bs
