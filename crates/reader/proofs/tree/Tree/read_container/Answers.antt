-- `reader::tree::Tree::read_container` meets its contract. Assumes nothing.
use mathlib.Core.Path.{◌≡◌, sym, ◌∙◌}
use native.Mathlib.Omega.{arith}
use borrow.Author.Rules.{rules}
use Rattle.std.proofs.lemmas.Result.{err_from_is_err_and}
use Rattle.refusal.specs.Refusal.{refused_at}
use Rattle.nodes.proofs.BehindLaws.{next-at}
use Rattle.reading.proofs.WalkedLaws.{walked}
use Rattle.reader.proofs.PlacedLaws.{was_ok, was_err}
use Rattle.reader.proofs.ReadingLaws.{none_found, two-found, first-within, contents-found, container-refused, opened, children-read}
use Rattle.reader.proofs.tree.Tree.read_container.Goals as goal

pub returns-then-found-eq0 : goal.returns-then-found-eq0
returns-then-found-eq0 c = rw c.at.ensures (none_found (walked c.requires) c.if-found-eq0.true)

pub returns-then-found-ne1 : goal.returns-then-found-ne1
returns-then-found-ne1 c = rw c.at-then-found-ne1.ensures (two-found (walked c.requires) c.if-found-eq0.false c.if-found-ne1.true)

pub overflow_add-found : goal.overflow_add-found
overflow_add-found c =
    let l = first-within (walked c.requires) c.if-found-ne1.false in
    omega (arith, l.0, l.1)

pub unwrap-first-requires : goal.unwrap-first-requires
unwrap-first-requires c = contents-found (walked c.requires) c.if-found-ne1.false c.behind.ensures

pub returns-in_err-isa : goal.returns-in_err-isa
returns-in_err-isa c =
    let err = was_err _ c.container_isa.result c.map_err.result c.map_err.ensures.cases c.in_err-isa.was in
    let p = err_from_is_err_and c.from_residual.result c.from_residual.ensures.1 in
    let k = err.2 in
    let e : p.0 ≡ refused_at err.0 c.args.found.first = p.2 ∙ search (rules, k) in
    let first = next-at _ _ _ (sym c.behind.ensures ∙ c.unwrap-first.ensures) in
    rw (p.1, e) (container-refused (walked c.requires) c.if-found-ne1.false first err.0 (rw err.1 at c.container_isa.ensures))

pub read_children-requires : goal.read_children-requires
read_children-requires c =
    let w = walked c.requires in
    let first = next-at _ _ _ (sym c.behind.ensures ∙ c.unwrap-first.ensures) in
    let ok = was_ok _ c.container_isa.result c.map_err.result c.map_err.ensures.cases c.in_ok-isa.was in
    rw c.unwrap_or.ensures
    (_, opened w c.if-found-ne1.false first (rw ok at c.container_isa.ensures))

pub returns : goal.returns
returns c =
    let w = walked c.requires in
    let first = next-at _ _ _ (sym c.behind.ensures ∙ c.unwrap-first.ensures) in
    let ok = was_ok _ c.container_isa.result c.map_err.result c.map_err.ensures.cases c.in_ok-isa.was in
    let g = rw ok at c.container_isa.ensures in
    children-read w c.if-found-ne1.false first g (c.read_children.ensures _ (rw c.unwrap_or.ensures (opened w c.if-found-ne1.false first g)))
