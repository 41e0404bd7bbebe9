-- The invariant of `sets::joined`: the words passed are made of those of the two sets.
use Prim.Native.Nat.{ℕ, ◌<◌}
use lib.ListN.{get_or}
use Rattle.sets.proofs.joined.Given as goal

abbrev pub invariant-loop-w : goal.invariant-loop-w
invariant-loop-w g l = (k : ℕ) → k < l.w → goal.F-post g l.join (get_or l.a.words k 0) (get_or l.b.words k 0) (get_or l.word-items k 0)
