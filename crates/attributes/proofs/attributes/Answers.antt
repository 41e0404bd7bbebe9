-- `attributes::attributes` meets its contract. Assumes nothing.
use Rattle.attributes.specs.Attributes.{pa_table}
use Rattle.attributes.proofs.attributes.Goals as goal

pub returns : goal.returns
unfolding pa_table
returns c =
    rw (
      c.byte_at.ensures,
      c.byte_at-2.ensures,
      c.byte_at-3.ensures,
      c.byte_at-4.ensures,
      c.byte_at-5.ensures,
      c.byte_at-6.ensures,
      c.byte_at-7.ensures,
      c.byte_at-8.ensures,
      c.byte_at-9.ensures,
      c.byte_at-10.ensures,
      c.byte_at-11.ensures,
      c.byte_at-12.ensures,
      c.byte_at-13.ensures,
      c.byte_at-14.ensures,
      c.word_at.ensures,
      c.later_bytes.ensures,
    )
