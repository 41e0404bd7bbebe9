-- `reader::tree::Tree::read_features` meets its contract. Assumes nothing.
use mathlib.Core.Path.{◌≡◌, ◌∙◌}
use borrow.Author.Rules.{rules}
use Rattle.std.proofs.lemmas.Result.{err_from_is_err_and}
use Rattle.refusal.specs.Refusal.{refused_at}
use Rattle.reader.proofs.PlacedLaws.{was_ok, was_err}
use Rattle.reader.proofs.RecordLaws.{place_at, below_more, below-refused, below-done}
use native.Mathlib.Omega.{arith}
use Rattle.reader.proofs.tree.Tree.read_features.Goals as goal

pub loop-i-preserved : goal.loop-i-preserved
loop-i-preserved c =
    let ok = was_ok _ c.read_feature.result c.map_err.result c.map_err.ensures.cases c.in_ok-features.was in
    λ nodes a. below_more a (c.loop-i.invariant nodes a) (omega arith) c.read_feature.ensures ok

pub returns-in_err-features : goal.returns-in_err-features
returns-in_err-features c =
    let err = was_err _ c.read_feature.result c.map_err.result c.map_err.ensures.cases c.in_err-features.was in
    let p = err_from_is_err_and c.from_residual.result c.from_residual.ensures.1 in
    let k = err.2 in
    let e : p.0 ≡ refused_at err.0 (place_at c.args.fs c.loop-i.i).at = p.2 ∙ search (rules, k) in
    rw (p.1, e) (λ nodes a. below-refused a (c.loop-i.invariant nodes a) (omega arith) c.read_feature.ensures err.1)

pub returns : goal.returns
returns c = λ nodes a. below-done a (c.loop-i.invariant nodes a) (omega arith)
