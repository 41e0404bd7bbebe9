-- The invariant of `tables::Table::inside`: the positions passed are in the set where their rows are inside.
use mathlib.Core.Path.{◌≡◌}
use Rattle.tables.specs.Tables.{rows_inside}
use Rattle.tables.proofs.Table.inside.Given as goal

abbrev pub invariant-loop-i : goal.invariant-loop-i
invariant-loop-i l = l.s.words ≡ rows_inside l.self.words.now l.i l.p.words
