-- The invariant of `closure::closed_part`.
use Rattle.positions.specs.Sets.{set_words, member_count}
use Rattle.positions.proofs.SetLaws.{WordList}
use Rattle.closure.specs.Parts.{slots_in, TakesOut, Passes}
use Rattle.closure.proofs.closed_part.Given as goal

abbrev pub invariant-loop-g : goal.invariant-loop-g
invariant-loop-g l =
    TakesOut (slots_in l.g.slots.now l.g.counts.now) l.g.n l.initial.old.words l.old.words
    × Passes (slots_in l.g.slots.now l.g.counts.now) l.g.n l.old.words l.x
    × WordList set_words l.x.members.words

abbrev pub decreases-loop-g : goal.decreases-loop-g
decreases-loop-g l = member_count l.old.words
