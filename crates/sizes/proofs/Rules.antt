-- A cell of segment sizes that is not all ones is a size. Assumes nothing.
use mathlib.Core.Path.{◌≡◌}
use Prim.Native.Nat.{ℕ}
use borrow.Author.Tests.{ne_eqb}
use Rattle.std.specs.Prelude.{Some}
use Rattle.sizes.specs.Sizes.{no_size, size_or_none}

pub size-read : (n : ℕ) → (n ≡ no_size → ⊥) → Some n ≡ size_or_none n
unfolding size_or_none
size-read n e = rw (ne_eqb n no_size e)
