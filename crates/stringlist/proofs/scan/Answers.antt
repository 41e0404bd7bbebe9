-- `stringlist::scan` meets its contract. The loop's invariant: the scan from here on stops where the whole one does. Assumes nothing.
use mathlib.Core.Path.{sym, ◌∙◌}
use native.Mathlib.Omega.{arith}
use Rattle.stringlist.proofs.StopLaws.{found, found_within, stop-none, stop-same, stop-sought, stop-later}
use Rattle.stringlist.proofs.scan.Goals as goal
use Rattle.stringlist.proofs.scan.Goals.{then-same_bytes-via-then-same_bytes, then-same_bytes-via-else-same_bytes+then-place-sought}

pub slice_bounds-same_bytes-count : goal.slice_bounds-same_bytes-count
slice_bounds-same_bytes-count c = omega (arith, found_within _ _ (found _ _ (sym c.in-Some.ensures)))

pub slice_bounds-same_bytes-start : goal.slice_bounds-same_bytes-start
slice_bounds-same_bytes-start c = omega (arith, found_within _ _ (found _ _ (sym c.in-Some.ensures)))

pub slice_bounds-same_bytes-end : goal.slice_bounds-same_bytes-end
slice_bounds-same_bytes-end c = omega (arith, found_within _ _ (found _ _ (sym c.in-Some.ensures)))

pub returns-then-same_bytes : goal.returns-then-same_bytes
returns-then-same_bytes c =
    let f = found c.args.list.now c.loop-to.from (sym c.in-Some.ensures) in
    elim c.then-same_bytes.branch [
      | then-same_bytes-via-then-same_bytes w ↦ stop-same _ _ _ _ _ f (sym c.same_bytes.ensures ∙ w.if-same_bytes.true) ∙ c.loop-to.invariant.1
      | then-same_bytes-via-else-same_bytes+then-place-sought w ↦
          stop-sought _ _ _ _ _ f (sym c.same_bytes.ensures ∙ w.if-same_bytes.false) w.if-place-sought.true ∙ c.loop-to.invariant.1
    ]

pub overflow_add-from : goal.overflow_add-from
overflow_add-from c = omega (arith, found_within _ _ (found _ _ (sym c.in-Some.ensures)))

pub overflow_add-place : goal.overflow_add-place
overflow_add-place c = omega (arith, found_within _ _ (found _ _ (sym c.in-Some.ensures)), c.loop-to.invariant.0)

pub loop-to-smaller : goal.loop-to-smaller
loop-to-smaller c = omega (arith, found_within _ _ (found _ _ (sym c.in-Some.ensures)))

pub loop-to-preserved : goal.loop-to-preserved
loop-to-preserved c =
    let f = found c.args.list.now c.loop-to.from (sym c.in-Some.ensures) in (
      omega (arith, found_within _ _ f, c.loop-to.invariant.0),
      stop-later _ _ _ _ _ f (sym c.same_bytes.ensures ∙ c.if-same_bytes.false) c.if-place-sought.false ∙ c.loop-to.invariant.1,
    )

pub returns : goal.returns
returns c = stop-none _ _ _ _ _ (sym c.in_default.ensures) ∙ c.loop-to.invariant.1
