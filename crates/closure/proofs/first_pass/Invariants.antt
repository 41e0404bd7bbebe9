-- The invariant of `closure::first_pass`.
use Prim.Native.Nat.{ℕ, ◌<◌}
use Rattle.closure.specs.Parts.{slots_in}
use Rattle.closure.proofs.PassLaws.{Looked}
use Rattle.closure.proofs.first_pass.Given as goal

abbrev pub invariant-loop-i : goal.invariant-loop-i
invariant-loop-i l =
    Looked (slots_in l.g.slots.now l.g.counts.now) l.g.n l.initial.x.members.words (λ (j : ℕ). j < l.i) l.x.members.words l.x.needy.words
