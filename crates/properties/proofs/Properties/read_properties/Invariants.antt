-- The invariant of `properties::Properties::read_properties`.
use mathlib.Core.Path.{◌≡◌}
use Prim.Native.Nat.{◌-◌}
use lib.ListN.{length}
use Rattle.properties.specs.Properties.{name_at}
use Rattle.properties.specs.Marks.{mark_count}
use Rattle.properties.proofs.ReadLaws.{ReadTo}
use Rattle.properties.proofs.Properties.read_properties.Given as goal

abbrev pub invariant-loop-at : goal.invariant-loop-at
invariant-loop-at l =
    (mark_count ≡ length l.marks) × ReadTo l.self.bytes.now l.self.end (name_at l.self.strings.bytes.now l.self.strings.from l.self.strings.limit) l.self.first l.cursor.at l.marks

abbrev pub decreases-loop-at : goal.decreases-loop-at
decreases-loop-at l = l.self.end - l.cursor.at
