-- Bytes: which numbers are bytes, the bytes of a cell, and bytes that stand at a place.
use Rattle.std.specs.Prelude.{ℕ, ◌/◌, ◌%◌, ◌^◌, ◌<◌, ◌≡◌, List, [], ◌∷◌, length, take, drop}

-- a number that a byte can be
abbrev pub IsByte : ℕ → Type 0
IsByte b = b < 256

-- a number that a cell can be
abbrev pub IsCell : ℕ → Type 0
IsCell n = n < 2 ^ 32

-- the four bytes of a number below 2 ^ 32: "All cells are big-endian"
unfoldable pub cell_bytes : ℕ → List ℕ
cell_bytes n = n / 2 ^ 24 ∷ n / 2 ^ 16 % 256 ∷ n / 2 ^ 8 % 256 ∷ n % 256 ∷ []

-- something holds of each element of a list
abbrev pub Each : {A : Type 0} → (A → Type 0) → List A → Type 0
Each P [] = Unit {0}
Each P (x ∷ xs) = P x × Each P xs

-- bytes stand at a place of s
unfoldable pub Stands : List ℕ → ℕ → List ℕ → Type 0
Stands s at bytes = take (length bytes) (drop at s) ≡ bytes
