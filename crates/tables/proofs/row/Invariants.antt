-- The invariant of `tables::row`.
use Rattle.record.specs.Record.{most_features}
use Prim.Native.Nat.{◌<◌}
use Rattle.tables.proofs.RowLaws.{ReadTo}
use Rattle.tables.proofs.row.Given as goal

abbrev pub invariant-loop-w : goal.invariant-loop-w
invariant-loop-w l = ReadTo l.table l.i l.s.words l.w × (l.i < most_features)
