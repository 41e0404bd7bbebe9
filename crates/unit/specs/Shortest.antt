-- The shortest lower-case text of a number, in the words of demand 2.
use Rattle.std.specs.Prelude.{ℕ, ◌≤◌, ◌≡◌, List, [], ◌∷◌, length}
use Rattle.refusal.specs.Refusal.{answer}
use Rattle.characters.specs.Characters.{hex_digit}
use Rattle.unit.specs.Hex.{read_hex}

-- every character is a lower-case hex digit
pub data LowerCase : List ℕ → Type 0 where
  none : LowerCase []
  digit : (n : ℕ) {cs : List ℕ} → LowerCase cs → LowerCase (hex_digit n ∷ cs)

-- a text of that number, lower-case, and no other accepted text of that number has fewer characters
pub record Shortest (largest n : ℕ) (text : List ℕ) : Type 0 where
  pub reads : read_hex largest text ≡ answer n
  pub lower : LowerCase text
  pub fewest : (other : List ℕ) → read_hex largest other ≡ answer n → length text ≤ length other
