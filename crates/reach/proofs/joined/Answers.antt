-- `reach::joined` meets its contract. Assumes nothing.
use mathlib.Core.Path.{sym, ap, ◌∙◌}
use mathlib.Core.List.{List}
use Prim.Native.Nat.{ℕ}
use Rattle.positions.specs.Sets.{with_member, is_subset}
use Rattle.reach.proofs.JoinLaws.{own-inside, joined_in, joined-out}
use Rattle.reach.proofs.joined.Goals as goal

pub returns-then-subset : goal.returns-then-subset
returns-then-subset c =
    let own = c.insert.ensures ∙ ap (λ (ws : List ℕ). with_member ws c.args.k) c.empty.ensures in
    let test = c.subset.ensures ∙ ap (λ (ws : List ℕ). is_subset ws c.args.x.words) own ∙ own-inside c.args.x.words c.args.k c.requires in
    c.union.ensures ∙ joined_in _ _ _ (sym test ∙ c.if-subset.true)

pub returns : goal.returns
returns c =
    let own = c.insert.ensures ∙ ap (λ (ws : List ℕ). with_member ws c.args.k) c.empty.ensures in
    let test = c.subset.ensures ∙ ap (λ (ws : List ℕ). is_subset ws c.args.x.words) own ∙ own-inside c.args.x.words c.args.k c.requires in
    joined-out _ _ _ (sym test ∙ c.if-subset.false)
