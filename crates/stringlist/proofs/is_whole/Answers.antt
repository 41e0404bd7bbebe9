-- `stringlist::is_whole` meets its contract. Assumes nothing.
use mathlib.Core.Path.{ap, ◌∙◌}
use Prim.Native.Nat.{◌-◌}
use lib.Dec.{eqb}
use lib.ListN.{length}
use Rattle.std.proofs.lemmas.Option.{unwrap_or-slice_get}
use Rattle.std.specs.Option.{unwrap_or}
use Rattle.stringlist.proofs.StringLaws.{whole-last}
use Rattle.stringlist.proofs.is_whole.Goals as goal

pub returns : goal.returns
returns c =
    let read = c.copied.ensures ∙ c.last.ensures.value in
    ap (λ b. eqb b 0) (c.unwrap_or.ensures ∙ ap (λ o. unwrap_or o 0) read ∙ unwrap_or-slice_get c.args.list.now (length c.args.list.now - 1) 0) ∙ whole-last c.args.list.now
