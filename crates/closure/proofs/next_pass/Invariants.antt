-- The invariant of `closure::next_pass`.
use Prim.Native.Nat.{ℕ, ◌<◌}
use mathlib.Core.Path.{◌≡◌}
use mathlib.Core.Bool.{true, false}
use Rattle.positions.specs.Sets.{room, has, member_count}
use Rattle.closure.specs.Parts.{slots_in}
use Rattle.closure.proofs.PassLaws.{Looked}
use Rattle.closure.proofs.next_pass.Given as goal

abbrev pub invariant-loop-i : goal.invariant-loop-i
invariant-loop-i l =
    Looked (slots_in l.g.slots.now l.g.counts.now) l.g.n l.initial.y.members.words (λ (j : ℕ). has l.todo.words j ≡ false) l.y.members.words l.y.needy.words
    × ((j : ℕ) → j < room → has l.todo.words j ≡ true → j < l.g.n)

abbrev pub decreases-loop-i : goal.decreases-loop-i
decreases-loop-i l = member_count l.todo.words
