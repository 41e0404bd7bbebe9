-- Lists of strings (document 02, A3).
use Rattle.std.specs.Prelude.{ℕ, ◌-◌, ◌≡◌, Bool, false, cond, Option, Some, None, List, [], ◌∷◌, ◌++◌, eqb, length, get_or}
use Rattle.cells.specs.Bytes.{Each}
use Rattle.strings.specs.Strings.{same_bytes}
use Rattle.positions.specs.Below.{first_that}

-- a byte that does not end a string
abbrev pub NotZero : ℕ → Type 0
NotZero b = b ≡ 0 → ⊥

-- the bytes of some strings, each with its zero byte
unfoldable pub strings_bytes : List (List ℕ) → List ℕ
strings_bytes [] = []
strings_bytes (t ∷ ts) = t ++ 0 ∷ strings_bytes ts

-- the strings of a list: their bytes are the list, and none has a zero byte in it
pub record AreStrings (list : List ℕ) (strings : List (List ℕ)) : Type 0 where
  pub bytes : strings_bytes strings ≡ list
  pub plain : Each (Each NotZero) strings

-- a string stands first at a place, "counted from 0"; or "it doesn't stand there"
pub data StandsFirst (list text : List ℕ) : Option ℕ → Type 0 where
  stands_at : (before after : List (List ℕ)) → AreStrings list (before ++ text ∷ after) → Each (λ (t : List ℕ). t ≡ text → ⊥) before
      → StandsFirst list text (Some (length before))
  stands_nowhere : ((before after : List (List ℕ)) → AreStrings list (before ++ text ∷ after) → ⊥) → StandsFirst list text None

-- the same as tests. The strings before the zero bytes of a run; bytes behind the last zero byte are none
abbrev pub on_first : ℕ → List (List ℕ) → List (List ℕ)
on_first b [] = []
on_first b (t ∷ ts) = (b ∷ t) ∷ ts

unfoldable pub split_at_zeros : List ℕ → List (List ℕ)
split_at_zeros [] = []
split_at_zeros (b ∷ bs) = cond (eqb b 0) ([] ∷ split_at_zeros bs) (on_first b (split_at_zeros bs))

-- the last byte, if there is any, is zero
unfoldable pub is_whole : List ℕ → Bool
is_whole list = eqb (get_or list (length list - 1) 0) 0

-- "a list whose last string lacks its zero byte contains nothing"
unfoldable pub strings_in : List ℕ → List (List ℕ)
strings_in list = cond (is_whole list) (split_at_zeros list) []

-- "at which place of the list the string first stands, counted from 0, or that it doesn't stand there"
abbrev pub is_string_at : List (List ℕ) → List ℕ → ℕ → Bool
is_string_at strings text i = same_bytes (get_or strings i []) text

unfoldable pub string_place : List ℕ → List ℕ → Option ℕ
string_place list text = first_that (length (strings_in list)) (is_string_at (strings_in list) text)

-- "as its only string"
abbrev pub is_only : List ℕ → List (List ℕ) → Bool
is_only text [] = false
is_only text (t ∷ []) = same_bytes t text
is_only text (t ∷ u ∷ ts) = false

unfoldable pub is_only_string : List ℕ → List ℕ → Bool
is_only_string list text = is_only text (strings_in list)
