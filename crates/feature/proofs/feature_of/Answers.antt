-- `feature::feature_of` meets its contract. Assumes nothing.
use Rattle.record.specs.Cells.{feature_with}
use Rattle.feature.proofs.feature_of.Goals as goal

pub returns : goal.returns
unfolding feature_with
returns c =
    rw (
      c.given_word.ensures,
      c.number.ensures,
      c.number-2.ensures,
      c.number-3.ensures,
      c.number-4.ensures,
      c.number-5.ensures,
      c.number-6.ensures,
      c.number-7.ensures,
      c.number-8.ensures,
      c.number-9.ensures,
    )
