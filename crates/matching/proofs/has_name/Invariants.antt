-- The invariant of `matching::has_name`.
use mathlib.Core.Path.{◌≡◌}
use Prim.Native.Nat.{◌+◌}
use lib.ListN.{length}
use Rattle.strings.specs.Strings.{text_at, ended}
use Rattle.names.specs.Names.{same_text}
use Rattle.names.proofs.Texts.{has_from}
use Rattle.matching.proofs.has_name.Given as goal

abbrev pub invariant-loop-b : goal.invariant-loop-b
invariant-loop-b l =
    has_from l.fn.s l.fn.end (l.fn.from + length l.yielded) l.fn.name (length l.yielded)
    ≡ same_text (text_at l.fn.s l.fn.from l.fn.end) (ended l.fn.name)
