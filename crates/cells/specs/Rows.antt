-- Rows of a fixed length: what was read, and then zeros.
use Rattle.std.specs.Prelude.{ℕ, zero, suc, ◌-◌, List, [], ◌∷◌, ◌++◌, length, replicate}

-- f 0, f 1, .., n of them
abbrev pub each : {A : Type 0} → ℕ → (ℕ → A) → List A
each zero f = []
each (suc n) f = each n f ++ (f n ∷ [])

-- a list, and then z, up to m elements
abbrev pub padded : {A : Type 0} → ℕ → A → List A → List A
padded m z xs = xs ++ replicate (m - length xs) z
