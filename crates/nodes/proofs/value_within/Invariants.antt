-- The invariant of `nodes::value_within`.
use mathlib.Core.Path.{◌≡◌}
use Prim.Native.Nat.{◌-◌, ◌≤◌}
use lib.ListN.{length}
use Rattle.tokens.specs.Tokens.{tokens}
use Rattle.properties.specs.Properties.{name_at}
use Rattle.nodes.specs.Places.{held_in}
use Rattle.nodes.proofs.value_within.Given as goal

abbrev pub invariant-loop-at : goal.invariant-loop-at
invariant-loop-at l =
    (l.end ≤ length l.tree)
    × (held_in l.name (tokens l.tree l.end (name_at l.tree l.strings.from l.strings.limit) l.at)
    ≡ held_in l.name (tokens l.tree l.end (name_at l.tree l.strings.from l.strings.limit) l.first))

abbrev pub decreases-loop-at : goal.decreases-loop-at
decreases-loop-at l = l.end - l.at
