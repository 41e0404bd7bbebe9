-- Numbers as digits (document 01, "Both sides": the lister's text).
use Rattle.std.specs.Prelude.{ℕ, zero, suc, ◌/◌, ◌%◌, true, false, List, [], ◌∷◌, ◌++◌, ltb}
use Rattle.characters.specs.Characters.{hex_digit}

-- the last digits of a number in a base up to sixteen, as many as the second argument says
unfoldable pub last_digits : ℕ → ℕ → ℕ → List ℕ
last_digits base zero n = []
last_digits base (suc many) n = last_digits base many (n / base) ++ (hex_digit (n % base) ∷ [])

-- how many decimal digits a number has with no leading zero; there are at most as many as the first argument says
unfoldable pub places_within : ℕ → ℕ → ℕ
places_within zero n = 0
places_within (suc most) n = elim (ltb n 10) [ true ↦ 1 | false ↦ suc (places_within most (n / 10)) ]

-- a number has fewer digits than it has units, or one
unfoldable pub decimal_places : ℕ → ℕ
decimal_places n = places_within (suc n) n

-- a number in decimal with no leading zero
unfoldable pub decimal : ℕ → List ℕ
decimal n = last_digits 10 (decimal_places n) n

-- a word in lower-case hexadecimal with its leading zeros
abbrev pub hex_word : ℕ → ℕ → List ℕ
hex_word many n = last_digits 16 many n
