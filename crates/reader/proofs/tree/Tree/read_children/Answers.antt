-- `reader::tree::Tree::read_children` meets its contract. Assumes nothing.
use native.Mathlib.Omega.{arith}
use Rattle.reader.proofs.ChildrenLaws.{too_many, contained, repeated-low, name-repeated, all_read}
use Rattle.reader.proofs.tree.Tree.read_children.Goals as goal

pub returns-in-Some : goal.returns-in-Some
returns-in-Some c = rw c.at.ensures (λ n w. too_many w c.child_places-fs.ensures c.in-Some.is)

pub offset_bounds-fs-later : goal.offset_bounds-fs-later
offset_bounds-fs-later c =
    omega (arith, repeated-low c.requires.1 c.child_places-fs.ensures c.in_default.is c.repeated_name.ensures c.in-Some-repeated_name.is)

pub bounds-fs-later : goal.bounds-fs-later
bounds-fs-later c =
    omega (arith, repeated-low c.requires.1 c.child_places-fs.ensures c.in_default.is c.repeated_name.ensures c.in-Some-repeated_name.is)

pub returns-in-Some-repeated_name : goal.returns-in-Some-repeated_name
returns-in-Some-repeated_name c =
    rw c.at-in-Some-repeated_name.ensures
    (λ n w. name-repeated w c.child_places-fs.ensures c.in_default.is c.repeated_name.ensures c.in-Some-repeated_name.is)

pub read_places-requires : goal.read_places-requires
read_places-requires c = (_, contained c.requires.1 c.child_places-fs.ensures c.in_default.is)

pub returns : goal.returns
returns c = λ n w.
    let f = c.child_places-fs.ensures in
    let m = c.in_default.is in
    all_read w f m c.repeated_name.ensures c.in_default-repeated_name.is (c.read_places.ensures _ (contained w f m))
