-- `attributes::known_count` meets its contract. Assumes nothing.
use borrow.Author.Tests.{eq-eqb, ne_eqb}
use Rattle.attributes.specs.Attributes.{edition_first}
use Rattle.attributes.specs.Parts.{known_count}
use Rattle.attributes.proofs.known_count.Goals as goal

pub returns-then-edition-eq-EDITION_FIRST : goal.returns-then-edition-eq-EDITION_FIRST
unfolding known_count
returns-then-edition-eq-EDITION_FIRST c = rw (eq-eqb c.args.edition edition_first c.if-edition-eq-EDITION_FIRST.true) c.min.ensures

pub returns : goal.returns
unfolding known_count
returns c = rw (ne_eqb c.args.edition edition_first c.if-edition-eq-EDITION_FIRST.false)
