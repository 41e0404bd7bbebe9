-- A lent buffer that is written (document 02, A5: "wherever a lent buffer is written, bytes past what is written stay").
use Rattle.std.specs.Prelude.{ℕ, ◌+◌, ◌≡◌, List, ◌++◌, length, take, drop}
use Rattle.refusal.specs.Checks.{Check, first_fault}
use Rattle.cells.specs.Bytes.{Stands}

-- "bytes past what is written stay": of a buffer into which some bytes are written from place `at` on, all others are as they were
pub record Stays (old : List ℕ) (at many : ℕ) (after : List ℕ) : Type 0 where
  pub size : length after ≡ length old
  pub front : take at after ≡ take at old
  pub later : drop (at + many) after ≡ drop (at + many) old

-- and the bytes of `new` are those that are written
pub record Writes (old : List ℕ) (at : ℕ) (new after : List ℕ) : Type 0 where
  pub stands : Stands after at new
  pub stays : Stays old at (length new) after

-- the bytes of `old` once `new` is written from place `at` on
unfoldable pub written : List ℕ → ℕ → List ℕ → List ℕ
written old at new = take at old ++ (new ++ drop (at + length new) old)

-- the buffer after a call that writes: where one of its checks does not hold, the call is refused and leaves the buffer
unfoldable pub after_writing : List (Check ℕ) → List ℕ → ℕ → List ℕ → List ℕ
after_writing checks old at new = first_fault (λ (n : ℕ). old) checks (written old at new)
