-- Node names and property names (document 01, "The walk").
use Rattle.std.specs.Prelude.{ℕ, suc, Bool, true, false, not, cond, Option, Some, None, List, [], ◌∷◌, eqb, leb, length}
use Rattle.refusal.specs.Refusal.{Outcome, answer, refuse}
use Rattle.characters.specs.Characters.{is_node_character, is_property_character}
use Rattle.strings.specs.Strings.{Text, ended, unended, same_bytes, text_at}

-- "A node name other than the root's has 1 to 63 characters"
abbrev pub most_node_name : ℕ
most_node_name = 63

-- "A property name has 1 to 31"; by A13 of document 02, "7 for property names moves to 63"
abbrev pub most_property_name : ℕ
most_property_name = 63

-- the character `@`
abbrev pub at_sign : ℕ
at_sign = 64

abbrev pub both : Bool → Bool → Bool
both true b = b
both false b = false

abbrev pub either : Bool → Bool → Bool
either true b = true
either false b = b

-- every character is of a class
unfoldable pub every : (ℕ → Bool) → List ℕ → Bool
every p [] = true
every p (c ∷ cs) = both (p c) (every p cs)

-- how many characters are `@`
unfoldable pub at_signs : List ℕ → ℕ
at_signs [] = 0
at_signs (c ∷ cs) = elim (eqb c at_sign) [ true ↦ suc (at_signs cs) | false ↦ at_signs cs ]

-- the first and the last character is not `@`
unfoldable pub first_is_plain : List ℕ → Bool
first_is_plain [] = true
first_is_plain (c ∷ cs) = not (eqb c at_sign)

unfoldable pub last_is_plain : List ℕ → Bool
last_is_plain [] = true
last_is_plain (c ∷ []) = not (eqb c at_sign)
last_is_plain (c ∷ d ∷ ds) = last_is_plain (d ∷ ds)

-- a length from 1 to `most`
abbrev pub length_within : ℕ → List ℕ → Bool
length_within most cs = both (leb 1 (length cs)) (leb (length cs) most)

-- "digits, letters and `, . _ + -`, with at most one `@` that has characters on both sides"
unfoldable pub node_characters : List ℕ → Bool
node_characters cs =
    both (every (λ (c : ℕ). either (is_node_character c) (eqb c at_sign)) cs)
    (both (leb (at_signs cs) 1) (both (first_is_plain cs) (last_is_plain cs)))

-- "Both end in a zero byte within their block; if not, 7"
unfoldable pub is_node_name : Text → Bool
is_node_name (ended cs) = both (length_within most_node_name cs) (node_characters cs)
is_node_name unended = false

unfoldable pub is_property_name : Text → Bool
is_property_name (ended cs) = both (length_within most_property_name cs) (every is_property_character cs)
is_property_name unended = false

-- "One root, with an empty name"
unfoldable pub is_root_name : Text → Bool
is_root_name (ended cs) = eqb (length cs) 0
is_root_name unended = false

-- two names are the same characters
unfoldable pub same_text : Text → Text → Bool
same_text (ended cs) (ended ds) = same_bytes cs ds
same_text (ended cs) unended = false
same_text unended t = false

-- how a name that was read ends: with the number of its characters, or with 7, "name not as below"
abbrev pub name_outcome : Option ℕ → Outcome ℕ
name_outcome (Some n) = answer n
name_outcome None = refuse 0 7

-- the outcome of reading a text as a name
abbrev pub read_name : (Text → Bool) → Text → Outcome ℕ
read_name good unended = refuse 0 7
read_name good (ended cs) = cond (good (ended cs)) (answer (length cs)) (refuse 0 7)

-- that of the name that begins at a place, in a block that ends at `end`
unfoldable pub node_name_at : List ℕ → ℕ → ℕ → Outcome ℕ
node_name_at s from end = read_name is_node_name (text_at s from end)

unfoldable pub property_name_at : List ℕ → ℕ → ℕ → Outcome ℕ
property_name_at s from end = read_name is_property_name (text_at s from end)

unfoldable pub root_name_at : List ℕ → ℕ → ℕ → Bool
root_name_at s from end = is_root_name (text_at s from end)
