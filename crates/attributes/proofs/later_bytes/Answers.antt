-- `attributes::later_bytes` meets its contract. Assumes nothing.
use mathlib.Core.Path.{◌∙◌}
use native.Mathlib.Omega.{arith}
use Rattle.attributes.proofs.Editions.{later-copied, later-none}
use Rattle.attributes.proofs.later_bytes.Goals as goal

pub returns-then-bytes-gt-FIRST_LATER : goal.returns-then-bytes-gt-FIRST_LATER
returns-then-bytes-gt-FIRST_LATER c = c.put_bytes.ensures ∙ later-copied c.args.bytes.now

pub returns-else-bytes-gt-FIRST_LATER : goal.returns-else-bytes-gt-FIRST_LATER
returns-else-bytes-gt-FIRST_LATER c = later-none c.args.bytes.now (omega arith)
