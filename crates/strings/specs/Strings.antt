-- Strings that end in a zero byte, and equality of byte runs (document 01, "The walk", "The feature record").
use Rattle.std.specs.Prelude.{ℕ, ◌+◌, ◌-◌, Bool, true, false, Option, Some, None, List, [], ◌∷◌, eqb, length, take, drop}

-- what a run of bytes begins with: a string and its zero byte, or no string, since no zero byte follows
pub data Text : Type 0 where
  ended : (characters : List ℕ) → Text
  unended : Text

abbrev pub onto : ℕ → Text → Text
onto b (ended cs) = ended (b ∷ cs)
onto b unended = unended

unfoldable pub text_of : List ℕ → Text
text_of [] = unended
text_of (b ∷ bs) = elim (eqb b 0) [ true ↦ ended [] | false ↦ onto b (text_of bs) ]

-- the string from a place on, in a block that ends at `end`
unfoldable pub text_at : List ℕ → ℕ → ℕ → Text
text_at s from end = text_of (take (end - from) (drop from s))

-- where the zero byte of a string stands that begins at a place
unfoldable pub ending_of : ℕ → Text → Option ℕ
ending_of from (ended cs) = Some (from + length cs)
ending_of from unended = None

-- the two runs are the same bytes
unfoldable pub same_bytes : List ℕ → List ℕ → Bool
same_bytes [] [] = true
same_bytes [] (y ∷ ys) = false
same_bytes (x ∷ xs) [] = false
same_bytes (x ∷ xs) (y ∷ ys) = elim (eqb x y) [ true ↦ same_bytes xs ys | false ↦ false ]
