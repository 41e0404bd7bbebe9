-- The characters of names (document 01, "The walk") and of hexadecimal numbers ("CPU properties and unit text").
use Rattle.std.specs.Prelude.{ℕ, zero, suc, ◌+◌, ◌*◌, ◌/◌, ◌%◌, Bool, true, false, ◌||◌, cond, Option, Some, None, List, [], ◌∷◌, ◌++◌, eqb, get_or}
use Rattle.std.specs.Option.{option_or}
use Prim.Native.String.{String}
use Prim.Native.String as text
use Prim.Native.Char.{code}

-- the bytes of an ASCII text
abbrev pub bytes : String → List ℕ
bytes text.[] = []
bytes (text.◌∷◌ c cs) = code c ∷ bytes cs

-- a character is one of a list
abbrev pub among : ℕ → List ℕ → Bool
among x [] = false
among x (y ∷ ys) = eqb x y || among x ys

abbrev pub digits_and_letters : List ℕ
digits_and_letters =
    bytes "0123456789" ++ bytes "abcdefghijklmnopqrstuvwxyz" ++ bytes "ABCDEFGHIJKLMNOPQRSTUVWXYZ"

-- "digits, letters and `, . _ + -`"
unfoldable pub is_node_character : ℕ → Bool
is_node_character b = among b (digits_and_letters ++ bytes ",._+-")

-- "the same without `@`, with `?` and `#`"
unfoldable pub is_property_character : ℕ → Bool
is_property_character b = among b (digits_and_letters ++ bytes ",._+-" ++ bytes "?#")

abbrev pub lower_digits : List ℕ
lower_digits = bytes "0123456789abcdef"

abbrev pub upper_digits : List ℕ
upper_digits = bytes "0123456789ABCDEF"

-- the value of a character that stands in a list of digits: its place, counted from `v`
abbrev pub digit_value : ℕ → List ℕ → ℕ → Option ℕ
digit_value v [] b = None
digit_value v (d ∷ ds) b = cond (eqb b d) (Some v) (digit_value (suc v) ds b)

-- "hex, either case": a digit's value is its place in either of these; no other character has one
unfoldable pub hex_value : ℕ → Option ℕ
hex_value b = option_or (digit_value 0 lower_digits b) (digit_value 0 upper_digits b)

-- "written lower-case": the hex digit of a number's last four bits
unfoldable pub hex_digit : ℕ → ℕ
hex_digit n = get_or lower_digits (n % 16) 0

-- the low five bits of a table's entry: a hex digit's value, 16 for any other character
abbrev pub hex_entry : Option ℕ → ℕ
hex_entry (Some v) = v
hex_entry None = 16

abbrev pub one_if : Bool → ℕ
one_if true = 1
one_if false = 0

-- one entry of the table: the hex value, and 32 and 64 for the two classes
unfoldable pub entry_of : ℕ → ℕ
entry_of b = hex_entry (hex_value b) + 32 * one_if (is_node_character b) + 64 * one_if (is_property_character b)

-- f at n numbers from i on
unfoldable pub run : (ℕ → ℕ) → ℕ → ℕ → List ℕ
run f zero i = []
run f (suc n) i = f i ∷ run f n (suc i)

-- the table: an entry for each byte
unfoldable pub character_table : List ℕ
character_table = run entry_of 256 0

-- the class that an entry says
abbrev pub is_node_entry : ℕ → Bool
is_node_entry entry = eqb (entry / 32 % 2) 1

abbrev pub is_property_entry : ℕ → Bool
is_property_entry entry = eqb (entry / 64) 1
