-- `positions::insert` meets its contract. Assumes nothing.
use Rattle.positions.proofs.SetCodeLaws.{word-list, with-past, with-bit}
use borrow.Author.Rules.{rules}
use Rattle.positions.proofs.insert.Goals as goal

pub returns-else-w-lt-WORDS : goal.returns-else-w-lt-WORDS
returns-else-w-lt-WORDS c = with-past _ _ (word-list _ (search rules) (λ v. search rules)) c.if-w-lt-WORDS.false

pub returns-then-w-lt-WORDS : goal.returns-then-w-lt-WORDS
returns-then-w-lt-WORDS c = with-bit _ _ (word-list _ (search rules) (λ v. search rules)) (search rules)
