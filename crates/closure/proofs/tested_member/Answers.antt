-- `closure::tested_member` meets its contract. Assumes nothing.
use mathlib.Core.Path.{refl}
use borrow.Author.Rules.{rules}
use Rattle.closure.proofs.PassLaws.{member-none, member-absent, member-tested}
use Rattle.closure.proofs.tested_member.Goals as goal
use Rattle.closure.proofs.tested_member.Goals.{then-is_empty-via-then-is_empty, then-is_empty-via-else-is_empty+then-not-member}

pub returns-then-is_empty : goal.returns-then-is_empty
returns-then-is_empty c =
    elim c.then-is_empty.branch [
      | then-is_empty-via-then-is_empty w ↦ member-none _ _ _ _ (search rules) refl
      | then-is_empty-via-else-is_empty+then-not-member w ↦ member-absent _ _ _ _ w.member.ensures w.if-not-member.true refl
    ]

pub returns : goal.returns
returns c = member-tested _ _ _ _ (search rules) c.member.ensures c.if-not-member.false c.tested.ensures
