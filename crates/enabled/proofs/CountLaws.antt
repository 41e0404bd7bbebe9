-- The counts of a well formed record's dependencies, as an examination gives them, are those of its features. Assumes nothing.
use Prim.Native.Nat.{ℕ, ◌-◌, min}
use mathlib.Core.Path.{◌≡◌, ◌∙◌}
use mathlib.Core.Bool.{true}
use mathlib.Core.List.{List}
use native.Mathlib.Omega.{arith}
use lib.ListN.{length, replicate, get_or-append}
use Rattle.cells.specs.Rows.{each}
use Rattle.cells.proofs.Rows.{length-each, row-at}
use Rattle.record.specs.declared.Record.{Record}
use Rattle.record.specs.Record.{most_features}
use Rattle.form.specs.WellFormed.{well_formed}
use Rattle.form.proofs.Formed.{formed}
use Rattle.permitted.specs.Asked.{dependency_counts}
use Rattle.closure.specs.Graph.{dependencies_in}
use Rattle.enabled.specs.Parts.{CountsOf}

pub record-counts : (r : Record) → well_formed r ≡ true → CountsOf r (dependency_counts r)
unfolding dependency_counts
record-counts r e = record {
  each = λ i h.
      let few = (formed r e).few in
      let n = min r.count most_features in
      get_or-append (each n (dependencies_in r)) (replicate (most_features - length (each n (dependencies_in r))) 0) 0 i
      (omega (arith, length-each n (dependencies_in r)))
      ∙ row-at n (dependencies_in r) i 0 (omega arith);
}

pub seen-counts : (r : Record) → well_formed r ≡ true → {counts : List ℕ} → counts ≡ dependency_counts r → CountsOf r counts
seen-counts r e q = rw q (record-counts r e)
