-- The invariant of `radix::encodings_of`.
use mathlib.Core.Path.{◌≡◌}
use Prim.Native.Nat.{ℕ}
use lib.ListN.{get_or}
use Rattle.cells.specs.Rows.{each, padded}
use Rattle.sizes.specs.Sizes.{most_sizes}
use Rattle.radix.specs.Radix.{encoding_of, no_encoding}
use Rattle.radix.proofs.encodings_of.Given as goal

abbrev pub invariant-loop-i : goal.invariant-loop-i
invariant-loop-i l = l.encodings ≡ padded most_sizes no_encoding (each l.i (λ (k : ℕ). encoding_of (get_or l.cells k 0)))
