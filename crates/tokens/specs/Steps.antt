-- What stands at a place of a block of tokens (document 01, "The walk": "1 begin node, 2 end node, 3 property, 4 NOP (skipped), 9 end").
use Rattle.std.specs.Prelude.{ℕ, ◌+◌, ◌*◌, ◌/◌, Bool, true, false, not, ◌||◌, List, [], ◌∷◌, leb, eqb}
use Rattle.refusal.specs.Checks.{Check, check}
use Rattle.cells.specs.Cells.{cell_at}
use Rattle.tokens.specs.declared.Cursor.{Cursor}
use Rattle.tokens.specs.declared.Step.{Step}
use Rattle.tokens.specs.declared.Step.TheVariants.{BeginNode, EndNode, Property, Nop, End, Fault}

abbrev pub pick : {A : Type 0} → Bool → A → A → A
pick true a b = a
pick false a b = b

-- "Values and names are padded to four bytes"
unfoldable pub padded : ℕ → ℕ
padded n = (n + 3) / 4 * 4

abbrev pub cursor : ℕ → Cursor
cursor at = record { at = at }

-- a property: its token, the length of its value, its name's offset in the strings block, and the value, all within the block that
-- ends at `end`; or else it is cut short
unfoldable pub property_at : List ℕ → ℕ → ℕ → Step
property_at s end at =
    let length = cell_at s (at + 4) in
    pick (leb (at + 12) end)
    (pick (leb (at + 12 + padded length) end)
    (Property at (at + 12) length (cell_at s (at + 8)) (cursor (at + 12 + padded length)))
    (Fault at))
    (Fault at)

-- the token at a place, and the place of what follows it: for a begin token, its name. "token unknown .. or cut short" is a fault at
-- the token; "A block with no cell left" one at the block's end.
unfoldable pub step_at : List ℕ → ℕ → ℕ → Step
step_at s end at =
    pick (leb (at + 4) end)
    (pick (eqb (cell_at s at) 1) (BeginNode at (cursor (at + 4)))
    (pick (eqb (cell_at s at) 2) (EndNode at (cursor (at + 4)))
    (pick (eqb (cell_at s at) 3) (property_at s end at)
    (pick (eqb (cell_at s at) 4) (Nop at (cursor (at + 4)))
    (pick (eqb (cell_at s at) 9) (End at)
    (Fault at))))))
    (Fault end)

-- the number of what stands at a place: a token is no refusal; a fault is 6, "token unknown, out of place or cut short"
abbrev pub step_number : Step → ℕ
step_number (BeginNode at name) = 0
step_number (EndNode at next) = 0
step_number (Property at value length name next) = 0
step_number (Nop at next) = 0
step_number (End at) = 0
step_number (Fault at) = 6

-- "1 begin node, 2 end node, 3 property, 4 NOP (skipped), 9 end"
abbrev pub is_token_kind : ℕ → Bool
is_token_kind k = eqb k 1 || eqb k 2 || eqb k 3 || eqb k 4 || eqb k 9

-- what is asked of a token by itself, in a block that ends at `end`: a cell is left, it is of a known kind, and a property is not cut short
unfoldable pub token_checks : List ℕ → ℕ → ℕ → List (Check ℕ)
token_checks s end at =
    check (leb (at + 4) end) 6
    ∷ check (is_token_kind (cell_at s at)) 6
    ∷ check (not (eqb (cell_at s at) 3) || leb (at + 12 + padded (cell_at s (at + 4))) end) 6
    ∷ []
