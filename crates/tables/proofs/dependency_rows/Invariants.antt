-- The invariant of `tables::dependency_rows`: the rows passed are those of the slots.
use mathlib.Core.Path.{◌≡◌}
use Rattle.tables.specs.Tables.{table_of}
use Rattle.tables.proofs.DependencyLaws.{in_slots}
use Rattle.tables.proofs.dependency_rows.Given as goal

abbrev pub invariant-loop-i : goal.invariant-loop-i
invariant-loop-i l = l.words ≡ table_of l.i (in_slots l.g.slots.now l.g.counts.now)
