-- `segments::descriptor_at` meets its contract. The loop's invariant: the descriptor with its first `j` pages. Assumes nothing.
use native.Mathlib.Omega.{arith}
use Rattle.segments.specs.Segments.{no_page}
use Rattle.segments.proofs.SegmentLaws.{no-page-read, page-read, pages-read}
use Rattle.segments.proofs.descriptor_at.Goals as goal

pub loop-j-init : goal.loop-j-init
unfolding no_page
loop-j-init c = no-page-read c.cell_at.ensures c.cell_at-2.ensures c.cell_at-3.ensures

pub loop-j-preserved : goal.loop-j-preserved
loop-j-preserved c = page-read c.loop-j.invariant (omega arith) (omega arith) c.cell_at-in-loop-j.ensures c.cell_at-in-loop-j-2.ensures

pub returns : goal.returns
returns c = pages-read c.loop-j.invariant (omega arith)
