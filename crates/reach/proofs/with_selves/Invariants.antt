-- The invariant of `reach::with_selves`.
use mathlib.Core.Path.{◌≡◌}
use Rattle.tables.specs.Tables.{table_of}
use Rattle.reach.specs.Parts.{with_self}
use Rattle.reach.proofs.with_selves.Given as goal

abbrev pub invariant-loop-i : goal.invariant-loop-i
invariant-loop-i l = l.words ≡ table_of l.i (with_self l.table.words.now)
