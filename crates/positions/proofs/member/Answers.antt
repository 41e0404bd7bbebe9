-- `positions::member` meets its contract. Assumes nothing.
use mathlib.Core.Path.{◌∙◌}
use borrow.Author.Tests.{le-ltb}
use Rattle.positions.proofs.SetCodeLaws.{word-list, has_word, past_words}
use borrow.Author.Rules.{rules}
use Rattle.positions.proofs.member.Goals as goal

pub returns-then-w-lt-WORDS : goal.returns-then-w-lt-WORDS
returns-then-w-lt-WORDS c = has_word _ _

pub returns-else-w-lt-WORDS : goal.returns-else-w-lt-WORDS
returns-else-w-lt-WORDS c = le-ltb _ _ c.if-w-lt-WORDS.false ∙ past_words _ _ (word-list _ (search rules) (λ v. search rules)) c.if-w-lt-WORDS.false
