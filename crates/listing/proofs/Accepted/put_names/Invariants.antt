-- The names of the positions passed are put, each with `>` before it.
use mathlib.Core.List.{map}
use Prim.Native.Nat.{◌+◌, ◌*◌, ◌≤◌}
use lib.ListN.{take}
use Rattle.listing.specs.Listing.{others as others_of}
use Rattle.listing.specs.Parts.{Puts, name_in}
use Rattle.listing.proofs.Accepted.put_names.Given as goal

abbrev pub invariant-loop-i : goal.invariant-loop-i
invariant-loop-i l = record {
  put : Puts l.initial.line (others_of (map (name_in l.self.tree.now l.self.record) (take l.i-index l.others))) l.line;
  short : l.line.length ≤ l.initial.line.length + 64 * l.i-index;
}
