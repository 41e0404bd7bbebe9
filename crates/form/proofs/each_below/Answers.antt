-- `form::each_below` meets its contract. Assumes nothing.
use native.Mathlib.Omega.{arith}
use Rattle.std.proofs.Common.{rules}
use Rattle.std.proofs.iter.runs.Made.{chains}
use Rattle.form.proofs.FormedLaws.{below_all}
use Rattle.form.proofs.each_below.Goals as goal

pub returns : goal.returns
returns c = below_all c.args.slots.now c.args.count c.args.i c.args.n _ (omega arith) (search (rules, chains))
