-- `closure::closed_part` meets its contract. The loop: what is left keeps every closed part. Assumes nothing.
use Prim.Native.Nat.{ℕ}
use mathlib.Core.Path.{ap₂, ◌∙◌}
use mathlib.Core.List.{List}
use Rattle.positions.proofs.SetCodeLaws.{word-list}
use Rattle.closure.specs.Slots.{closed_part}
use Rattle.closure.proofs.PassLaws.{takes_none, takes-on}
use Rattle.closure.proofs.SweepLaws.{pass-last, pass-less}
use borrow.Author.Rules.{rules}
use Rattle.closure.proofs.closed_part.Goals as goal

pub loop-g-init : goal.loop-g-init
loop-g-init c =
    (takes_none _ _ _, c.first_pass-x.ensures, word-list _ (search (rules, c.first_pass-x.type_inv)) (λ v. search (rules, c.first_pass-x.type_inv)))

pub next_pass-x-requires : goal.next_pass-x-requires
next_pass-x-requires c = c.loop-g.invariant.1.needy

pub loop-g-smaller : goal.loop-g-smaller
loop-g-smaller c = pass-less _ _ _ _ c.loop-g.invariant.1 c.subset.ensures c.loop-g-test.true

pub loop-g-preserved : goal.loop-g-preserved
loop-g-preserved c = (
  takes-on _ _ _ _ _ c.loop-g.invariant.0 c.loop-g.invariant.1.out,
  c.next_pass-x.ensures,
  word-list _ (search (rules, c.next_pass-x.type_inv)) (λ v. search (rules, c.next_pass-x.type_inv)),
)

pub returns : goal.returns
returns c =
    let inv = c.loop-g.invariant in
    let g = c.new-g.ensures in
    pass-last _ _ _ c.new-g.result.few _ _ c.intersection-old.ensures c.below.ensures inv.0 inv.1
    c.subset.ensures c.loop-g-test.false inv.2 g.n
    ∙ ap₂ (λ (s k : List ℕ). closed_part s k c.args.n c.args.p.words) g.slots g.counts
