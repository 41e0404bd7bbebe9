-- The invariant of `matching::same_name`.
use mathlib.Core.Path.{◌≡◌}
use Prim.Native.Nat.{◌+◌}
use lib.ListN.{length}
use Rattle.strings.specs.Strings.{text_at}
use Rattle.names.specs.Names.{same_text}
use Rattle.matching.proofs.same_name.Given as goal

abbrev pub invariant-loop-x : goal.invariant-loop-x
invariant-loop-x l = same_text (text_at l.fn.s (l.fn.p + length l.yielded) l.fn.end) (text_at l.fn.s (l.fn.q + length l.yielded) l.fn.end) ≡ same_text (text_at l.fn.s l.fn.p l.fn.end) (text_at l.fn.s l.fn.q l.fn.end)
