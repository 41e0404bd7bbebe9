-- `closure::tested` meets its contract. Assumes nothing.
use mathlib.Core.Path.{refl, ◌∙◌}
use Rattle.std.proofs.Common.{rules}
use Rattle.std.proofs.iter.runs.Made.{chains}
use Rattle.positions.proofs.SetCodeLaws.{word-list}
use Rattle.closure.proofs.SlotLaws.{members-all}
use Rattle.closure.proofs.PassLaws.{tested-out, tested-held}
use Rattle.closure.proofs.tested.Goals as goal

pub returns-then-all : goal.returns-then-all
returns-then-all c =
    let held = members-all c.args.slots.now c.args.x.members.words c.all.result (word-list _ (search rules) (λ v. search rules)) (search (rules, chains)) in
    tested-held _ _ _ (held ∙ c.if-all.true) refl c.insert.ensures

pub returns-else-all : goal.returns-else-all
returns-else-all c =
    let held = members-all c.args.slots.now c.args.x.members.words c.all.result (word-list _ (search rules) (λ v. search rules)) (search (rules, chains)) in
    tested-out _ _ _ (held ∙ c.if-all.false) c.remove.ensures refl
