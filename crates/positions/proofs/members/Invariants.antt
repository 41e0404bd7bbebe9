-- The invariant of `positions::members`: the members in the words passed are counted.
use Prim.Native.Nat.{◌*◌}
use mathlib.Core.Path.{◌≡◌}
use Rattle.positions.specs.Below.{count}
use Rattle.positions.specs.Sets.{has}
use Rattle.positions.proofs.members.Given as goal

abbrev pub invariant-loop-word : goal.invariant-loop-word
invariant-loop-word l = l.n ≡ count (64 * l.word-index) (has l.word-items)
