-- A line's length is at most that of the buffer.
use native.Mathlib.Omega.{arith}
use lib.ListN.{length-take}
use Rattle.listing.proofs.LineLaws.{length-fits}
use Rattle.lister.proofs.print_list.Goals as goal

pub slice_bounds-line-end : goal.slice_bounds-line-end
slice_bounds-line-end g c =
    let w = c.in-Ok.ensures in length-fits _ _ _ c.in-Ok.length w.result_value w.out_after

pub slice_bounds-write_all-end : goal.slice_bounds-write_all-end
slice_bounds-write_all-end g c =
    let w = c.in-Ok.ensures in
    omega (arith, length-take c.in-Ok.length c.write_line.new.out, length-fits _ _ _ c.in-Ok.length w.result_value w.out_after)
