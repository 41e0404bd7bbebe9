-- The bytes in which a name is read.
use Rattle.std.specs.Prelude.{ℕ, ◌+◌, ◌≡◌, ◌<◌, ◌≤◌, List, length, get_or, min}

-- they are the bytes of `s` from `from` to the block's end, `most` at most
pub record IsRoom (s : List ℕ) (from end most : ℕ) (room : List ℕ) : Type 0 where
  pub begins : from ≤ min end (length s)
  pub long : from + length room ≡ min (min (length s) end) (from + most)
  pub bytes : (k : ℕ) → k < length room → get_or room k 0 ≡ get_or s (from + k) 0
