-- `reader::tree::Tree::read_places` meets its contract. Assumes nothing.
use Rattle.std.proofs.lemmas.Result.{err_from_is_err_and}
use Rattle.reader.proofs.RecordLaws.{features-refused, features-known, slots-refused, slots_read}
use Rattle.reader.proofs.tree.Tree.read_places.Goals as goal

pub returns-in_err-features : goal.returns-in_err-features
returns-in_err-features c =
    let p = err_from_is_err_and c.from_residual.result c.from_residual.ensures.1 in
    rw (p.1, p.2) (λ n g. features-refused g c.read_features.new.phandles _ (c.in_err-features.ensures _ g.nodes))

pub returns-in_err-resolve : goal.returns-in_err-resolve
returns-in_err-resolve c =
    let p = err_from_is_err_and c.from_residual-in_err-resolve.result c.from_residual-in_err-resolve.ensures.1 in
    rw (p.1, p.2)
    (λ n g.
    let r = c.in_ok-features.ensures _ g.nodes in
    slots-refused g _ r c.resolve.new.slots _ (c.in_err-resolve.ensures _ (features-known g _ r)))

pub returns : goal.returns
returns c = λ n g.
    let r = c.in_ok-features.ensures _ g.nodes in
    slots_read g _ r (c.in_ok-resolve.ensures _ (features-known g _ r))
