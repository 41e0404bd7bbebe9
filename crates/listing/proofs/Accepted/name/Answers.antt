-- `listing::Accepted::name` meets its contract: the name stands behind the feature's begin token, and it is short.
use native.Mathlib.Omega.{arith}
use mathlib.Core.Path.{sym, ap}
use lib.ListN.{length}
use Rattle.listing.specs.Parts.{name_in}
use Rattle.listing.proofs.NameLaws.{string-ends, string-part, no-string, name-in-short}
use Rattle.listing.proofs.StateLaws.{read-few}
use Rattle.listing.proofs.Accepted.name.Goals as goal

pub offset_bounds-self-i : goal.offset_bounds-self-i
offset_bounds-self-i c = omega (arith, read-few c.args.self.now.read)

pub bounds-self-i : goal.bounds-self-i
bounds-self-i c = omega (arith, read-few c.args.self.now.read)

pub slice_bounds-result-count : goal.slice_bounds-result-count
slice_bounds-result-count c = (string-ends _ _ (sym c.in-Some.ensures)).0

pub slice_bounds-result-start : goal.slice_bounds-result-start
slice_bounds-result-start c = (string-ends _ _ (sym c.in-Some.ensures)).0

pub slice_bounds-result-end : goal.slice_bounds-result-end
slice_bounds-result-end c = (string-ends _ _ (sym c.in-Some.ensures)).1

pub returns-in-Some : goal.returns-in-Some
unfolding name_in
returns-in-Some c =
    let e = string-part _ _ (sym c.in-Some.ensures) in
    (e, omega (arith, ap length e, name-in-short c.args.self.now.read c.args.i c.requires))

pub returns-in-None : goal.returns-in-None
unfolding name_in
returns-in-None c = (no-string _ _ (sym c.in-None.ensures), omega arith)
