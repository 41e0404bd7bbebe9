-- The invariant of `sets::subset`.
use Prim.Native.Nat.{ℕ, ◌≤◌, ◌<◌}
use mathlib.Core.Path.{◌≡◌}
use lib.Bits.{bit_and}
use lib.ListN.{get_or}
use Rattle.positions.specs.Sets.{set_words}
use Rattle.sets.proofs.subset.Given as goal

abbrev pub invariant-loop-w : goal.invariant-loop-w
invariant-loop-w l = (l.w ≤ set_words) × ((v : ℕ) → v < l.w → bit_and (get_or l.word-items v 0) (get_or l.b.words v 0) ≡ get_or l.word-items v 0)
