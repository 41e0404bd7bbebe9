-- The invariants of `nodes::repeated_name`.
use mathlib.Core.Path.{◌≡◌}
use Prim.Native.Nat.{min}
use Rattle.std.specs.Prelude.{None}
use Rattle.record.specs.Record.{most_features}
use Rattle.nodes.specs.Places.{same_names}
use Rattle.nodes.proofs.SearchLaws.{Searched, Compared}
use Rattle.nodes.proofs.repeated_name.Given as goal

abbrev pub invariant-search : goal.invariant-search
invariant-search l = (l.found ≡ None) × Searched (same_names l.tree l.b.end l.fn.fs.places) (min l.fn.fs.count most_features) l.i

abbrev pub invariant-loop-q : goal.invariant-loop-q
invariant-loop-q l = (l.found ≡ None) × Compared (same_names l.tree l.b.end l.fn.fs.places) (min l.fn.fs.count most_features) l.i l.q-index
