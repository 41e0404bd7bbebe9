-- The invariant of `chain::write_chain`.
use Prim.Native.Nat.{◌-◌}
use Rattle.chain.specs.Layers.{set_at}
use Rattle.chain.proofs.WriteLaws.{Writing}
use Rattle.chain.proofs.write_chain.Given as goal

abbrev pub invariant-loop-place : goal.invariant-loop-place
invariant-loop-place l = Writing l.table (set_at l.l.sets) l.l.held l.i l.initial.out l.out l.at (l.l.held - l.place) l.place
