-- `tables::inside_rows` meets its contract. Assumes nothing.
use Prim.Native.Nat.{ℕ}
use mathlib.Core.Path.{ap₂, ◌∙◌}
use mathlib.Core.List.{List}
use Rattle.tables.specs.Tables.{rows_inside}
use Rattle.tables.proofs.inside_rows.Goals as goal

pub returns : goal.returns
returns c =
    let t = c.new.ensures in
    c.inside.ensures ∙ ap₂ (λ (table : List ℕ) (m : ℕ). rows_inside table m c.args.p.words) t.words t.n
