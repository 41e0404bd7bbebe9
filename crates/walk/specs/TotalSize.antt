-- How much of a tree is read (document 01, "The walk": "Bytes after the total size are not read").
use Rattle.std.specs.Prelude.{ℕ, ◌≤◌, max, ◌≡◌, cond, List, ◌↔◌, leb, length, take}
use Rattle.header.specs.Header.{total_size, header_bytes, largest_tree}

-- how many bytes of a tree are read: the two cells of the magic and the total size and, where that is not above 65,536, as many as it says
abbrev pub bytes_read : List ℕ → ℕ
bytes_read tree = cond (leb (total_size tree) largest_tree) (max 8 (total_size tree)) 8

-- two lent runs of bytes that may differ behind what is read, and in their length: both hold a header or neither does, and where they do,
-- what is read of them is the same, and both hold the whole tree or neither does
pub record SameTree (s t : List ℕ) : Type 0 where
  pub header : (header_bytes ≤ length s) ↔ (header_bytes ≤ length t)
  pub first : header_bytes ≤ length s → take (bytes_read s) s ≡ take (bytes_read s) t
  pub whole : header_bytes ≤ length s → total_size s ≤ largest_tree → (total_size s ≤ length s) ↔ (total_size s ≤ length t)
