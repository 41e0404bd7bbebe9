-- The invariant of `tables::put_row`.
use Prim.Native.Nat.{◌<◌}
use Rattle.record.specs.Record.{most_features}
use Rattle.tables.proofs.RowLaws.{PutTo}
use Rattle.tables.proofs.put_row.Given as goal

abbrev pub invariant-loop-w : goal.invariant-loop-w
invariant-loop-w l = PutTo l.initial.table l.i l.s.words l.table l.w × (l.i < most_features)
