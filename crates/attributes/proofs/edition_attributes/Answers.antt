-- `attributes::edition_attributes` meets its contract. Assumes nothing.
use mathlib.Core.Path.{ap, ◌∙◌}
use native.Mathlib.Omega.{arith}
use lib.ListN.{length-take}
use Rattle.attributes.specs.Attributes.{pa_table}
use Rattle.attributes.proofs.Editions.{known-counted, known-within}
use Rattle.attributes.proofs.edition_attributes.Goals as goal

pub slice_bounds-attributes-end : goal.slice_bounds-attributes-end
slice_bounds-attributes-end c =
    let bytes = c.args.bytes.now in
    omega (arith, c.known_count-known.ensures, known-within c.args.edition bytes, length-take c.known_count-known.result bytes)

pub returns : goal.returns
returns c = c.attributes.ensures ∙ ap pa_table (rw c.known_count-known.ensures (known-counted c.args.edition c.args.bytes.now))
