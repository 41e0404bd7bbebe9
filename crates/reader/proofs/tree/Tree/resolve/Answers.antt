-- `reader::tree::Tree::resolve` meets its contract. Assumes nothing.
use mathlib.Core.Path.{◌≡◌, ◌∙◌}
use native.Mathlib.Omega.{arith}
use borrow.Author.Rules.{rules}
use Rattle.std.proofs.lemmas.Result.{err_from_is_err_and}
use Rattle.refusal.specs.Refusal.{refused_at}
use Rattle.reader.proofs.PlacedLaws.{was_ok, was_err}
use Rattle.reader.proofs.RecordLaws.{place_at}
use Rattle.reader.proofs.ResolveLaws.{resolve-begins, all-resolved, resolve-more, resolve-fail}
use Rattle.reader.proofs.tree.Tree.resolve.Goals as goal

pub loop-i-init : goal.loop-i-init
loop-i-init c = resolve-begins _ _ _ _ c.requires.1

pub loop-i-preserved : goal.loop-i-preserved
loop-i-preserved c =
    let ok = was_ok _ c.resolve_feature.result c.map_err.result c.map_err.ensures.cases c.in_ok-map_err.was in
    resolve-more _ _ _ _ (omega arith) _ _ c.loop-i.invariant c.resolve_feature.ensures ok

pub returns-in_err-map_err : goal.returns-in_err-map_err
returns-in_err-map_err c =
    let err = was_err _ c.resolve_feature.result c.map_err.result c.map_err.ensures.cases c.in_err-map_err.was in
    let p = err_from_is_err_and c.from_residual.result c.from_residual.ensures.1 in
    let k = err.2 in
    let e : p.0 ≡ refused_at err.0 (place_at c.args.fs c.loop-i.i).at = p.2 ∙ search (rules, k) in
    rw (p.1, e) (resolve-fail _ _ _ _ (omega arith) _ _ c.loop-i.invariant c.resolve_feature.ensures err.1)

pub returns : goal.returns
returns c = all-resolved _ _ _ _ c.loop-i.invariant (omega arith)
