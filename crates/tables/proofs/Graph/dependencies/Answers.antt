-- `tables::Graph::dependencies` meets its contract. Assumes nothing.
use native.Mathlib.Omega.{arith}
use borrow.Author.Rules.{rules}
use Rattle.tables.proofs.SlotLaws.{used-inside, own-part}
use Rattle.tables.proofs.Graph.dependencies.Goals as goal

pub overflow_add-result : goal.overflow_add-result
overflow_add-result c = omega (arith, used-inside c.args.self.counts.now c.args.i, c.min-first.ensures, c.used.ensures)

pub slice_bounds-result-end : goal.slice_bounds-result-end
slice_bounds-result-end c = omega (arith, used-inside c.args.self.counts.now c.args.i, c.min-first.ensures, c.used.ensures)

pub returns : goal.returns
returns c = own-part _ _ _ (search rules) c.min-first.ensures c.used.ensures
