-- Laws of the dependencies of a record: the graph that the table of them shows, and the largest closed part. Assumes nothing.
use Prim.Native.Nat.{ℕ, ◌<◌, min}
use mathlib.Core.Path.{◌≡◌, sym, ap, ◌∙◌}
use mathlib.Core.Bool.{Bool, true, ◌&&◌}
use mathlib.Core.List.{List}
use native.Mathlib.Omega.{arith}
use borrow.Author.Tests.{lt-ltb}
use lib.Dec.{eqb, ltb}
use lib.ListN.{get_or}
use Rattle.positions.specs.Below.{some}
use Rattle.positions.specs.Sets.{set_words, has}
use Rattle.positions.proofs.BelowLaws.{every_of}
use Rattle.positions.proofs.SetLaws.{collect-same}
use Rattle.record.specs.declared.Record.{Record}
use Rattle.record.specs.Record.{most_features, most_dependencies}
use Rattle.form.specs.WellFormed.{well_formed}
use Rattle.form.proofs.Formed.{formed}
use Rattle.tables.specs.Tables.{row_at, dependency_table}
use Rattle.tables.specs.Slots.{slot_number, slot_of}
use Rattle.tables.proofs.DependencyLaws.{in_slots}
use Rattle.tables.proofs.TableLaws.{in_table}
use Rattle.closure.specs.Graph.{Below, dependencies_in, dependency_in}
use Rattle.closure.specs.Enabled.{enabled}
use Rattle.closure.specs.Slots.{slots_below, permitted_among, closed_among, closed_part}
use Rattle.enabled.specs.Answers.{enabled_set}
use Rattle.enabled.specs.Parts.{CountsOf, Shows}
use Rattle.closure.proofs.Sweeps.{and-true, sweeps-agree}

module _ (r : Record) (e : well_formed r ≡ true) where
  pub graph-below : Below r.count (dependencies_in r) (dependency_in r)
  graph-below = record { below = λ i h j l. ((formed r e).each i h).below j l }

  module _ {counts : List ℕ} (k : CountsOf r counts) where
    -- its dependencies, by the slots and counts: as many, and none that leads out
    pub record-number : (i : ℕ) → i < r.count → dependencies_in r i ≡ slot_number counts i
    record-number i h = omega (arith, k.each i h, ((formed r e).each i h).few)

    pub record-permitted : (permitted : List ℕ) (i : ℕ) → i < r.count → has permitted i ≡ permitted_among r.slots counts r.count permitted i
    unfolding slots_below
    record-permitted permitted i h =
        sym (ap (λ (b : Bool). has permitted i && b) (every_of (slot_number counts i) (λ (j : ℕ). ltb (slot_of r.slots i j) r.count)
        (λ j l. lt-ltb (slot_of r.slots i j) r.count (((formed r e).each i h).below j (omega (arith, record-number i h)))))
        ∙ and-true (has permitted i))

    -- the enabled positions by them are its own
    pub record-enabled : (permitted : List ℕ) (i : ℕ) → i < r.count → enabled (dependencies_in r) (dependency_in r) (has permitted) r.count i
        ≡ enabled (slot_number counts) (slot_of r.slots) (permitted_among r.slots counts r.count permitted) r.count i
    record-enabled permitted =
        sweeps-agree r.count (dependencies_in r) (slot_number counts) (dependency_in r) (has permitted) _ graph-below (record-permitted permitted)
        (λ i h q. record-number i h) r.count

    -- the largest closed part by the slots and counts of a well-formed record is its enabled set
    pub record-closed : (permitted : List ℕ) → closed_part r.slots counts r.count permitted ≡ enabled_set r permitted
    unfolding closed_among enabled_set
    record-closed permitted =
        let all : min r.count most_features ≡ r.count = let few = (formed r e).few in omega arith in
        ap (λ (n : ℕ). closed_among r.slots counts n permitted) all
        ∙ sym (collect-same set_words r.count (enabled (dependencies_in r) (dependency_in r) (has permitted) r.count) _ (record-enabled permitted))

    -- its table shows its graph
    pub shows-table : Shows (dependencies_in r) (dependency_in r) r.count (row_at (dependency_table r.slots counts r.count))
    unfolding dependency_table in_slots
    shows-table = record {
      below = graph-below;
      rows = λ i t h l.
          let few = (formed r e).few in
          let short = ((formed r e).each i h).few in
          let m : min (get_or counts i 0) most_dependencies ≡ dependencies_in r i = omega (arith, k.each i h) in
          in_table (in_slots r.slots counts) (min r.count most_features) i t (omega arith) l
          ∙ ap (λ (m : ℕ). some m (λ (j : ℕ). eqb (dependency_in r i j) t)) m;
    }
