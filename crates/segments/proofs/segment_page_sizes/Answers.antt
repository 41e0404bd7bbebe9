-- `segments::segment_page_sizes` meets its contract. The loop's invariant: the descriptors from `at` on decide. Assumes nothing.
use native.Mathlib.Omega.{arith}
use mathlib.Core.Path.{sym}
use borrow.Author.Tests.{eqb-true, eqb-false}
use Rattle.std.proofs.lemmas.Result.{err_from_is_err_and}
use Rattle.refusal.proofs.Numbers.{numbered}
use Rattle.segments.specs.Segments.{no_descriptor, no_page}
use Rattle.segments.proofs.SegmentLaws.{no_bytes, none_read, not-refused, descriptor-refused, read_count, descriptor-read, all_read}
use Rattle.segments.proofs.segment_page_sizes.Goals as goal

pub returns-then-is_empty : goal.returns-then-is_empty
returns-then-is_empty c = no_bytes _ (eqb-true _ _ (sym c.if-is_empty.ensures))

pub loop-at-init : goal.loop-at-init
unfolding no_descriptor no_page
loop-at-init c = none_read (omega (arith, eqb-false _ _ (sym c.if-is_empty.ensures)))

pub returns-in_err-check_descriptor : goal.returns-in_err-check_descriptor
returns-in_err-check_descriptor c =
    let p = err_from_is_err_and c.from_residual.result c.from_residual.ensures.1 in
    rw (p.1, p.2) (descriptor-refused c.loop-at.invariant c.loop-at-test.true c.in_err-check_descriptor.ensures (numbered _))

pub descriptor_at-descriptor-requires : goal.descriptor_at-descriptor-requires
descriptor_at-descriptor-requires c = let g = not-refused _ _ _ (sym c.in_ok-check_descriptor.ensures) in (g.most, g.whole)

pub bounds-descriptors-i : goal.bounds-descriptors-i
bounds-descriptors-i c = let g = not-refused _ _ _ (sym c.in_ok-check_descriptor.ensures) in omega (arith, g)

pub loop-at-preserved : goal.loop-at-preserved
loop-at-preserved c =
    let g = not-refused _ _ _ (sym c.in_ok-check_descriptor.ensures) in
    let e = c.descriptor_at-descriptor.ensures in
    descriptor-read c.loop-at.invariant c.loop-at-test.true g e (omega (arith, read_count _ _ e))

pub returns : goal.returns
returns c = all_read c.loop-at.invariant c.loop-at-test.false
