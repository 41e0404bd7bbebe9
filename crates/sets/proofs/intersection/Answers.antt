-- `sets::intersection` meets its contract. Assumes nothing.
use borrow.Author.Rules.{rules}
use Rattle.positions.proofs.SetCodeLaws.{word-list}
use Rattle.sets.proofs.JoinLaws.{common-words}
use Rattle.sets.proofs.intersection.Goals as goal

pub returns : goal.returns
returns c = common-words _ _ _ (word-list _ (search rules) (λ v. search rules)) (λ w h. search (rules, c.joined.ensures w h))
