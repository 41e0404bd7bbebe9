-- In a record that is read, cells are as read, and each dependency is the position of the feature with its phandle. Assumes nothing.
use mathlib.Core.Path.{◌≡◌, refl, sym, ap, subst, ◌∙◌}
use mathlib.Core.Bool.{true, false, false≢true}
use mathlib.Core.List.{List}
use Prim.Native.Nat.{ℕ, suc, ◌<◌}
use native.Mathlib.Omega.{arith}
use native.Mathlib.Decide.{dec_lt}
use lib.ListN.{length, get_or, take, drop}
use Rattle.refusal.specs.Refusal.{Placed}
use Rattle.positions.specs.Below.{is_somewhere}
use Rattle.record.specs.declared.Record.{Record}
use Rattle.record.specs.declared.Feature.{Feature}
use Rattle.record.specs.declared.Property.{Property}
use Rattle.record.specs.declared.Property.TheVariants.{Phandle}
use Rattle.record.specs.Record.{feature_at, slot_at}
use Rattle.record.specs.Cells.{cell, dependency_count, feature_with}
use Rattle.nodes.specs.Nodes.{Node, node_at, children}
use Rattle.nodes.specs.Values.{value_of, number}
use Rattle.reading.specs.Features.{feature_of, cell_in, carries}
use Rattle.reading.specs.Dependencies.{carrier}
use Rattle.reading.specs.Reading.{record_with, record_by, record_of, read_record}
use Rattle.reading.specs.Accepted.{container_of, features_of, dependencies_of, FeatureForm, ContainerForm}
use Rattle.reading.specs.Resolved.{Holds, Zeroed, Resolved}
use Rattle.reading.proofs.Cells.{cell-read, count-read}
use Rattle.reading.proofs.Carriers.{node-split, carries-phandle, phandle-carries, carrier-carries, not-twice}
use Rattle.reading.proofs.Resolutions.{somewhere-at}
use Rattle.reading.proofs.SlotRowLaws.{Rows, all-rows, rows-found}
use Rattle.reading.proofs.Slots.{feature-at, no-feature, features-length, slot-at, no-slot, no-row, record-slots}
use Rattle.reading.proofs.Ends.{read-accepted, read_answer}

module _ (c : Node) (slots : List ℕ) where
  record-count : (record_with c slots).count ≡ length (children c)
  unfolding record_with
  record-count = refl

  held-cell : (i : ℕ) → i < length (children c) → (p : Property) → cell (feature_at (record_with c slots) i) p ≡ cell_in (node_at (children c) i) p
  held-cell i h p = ap (λ (f : Feature). cell f p) (feature-at c slots i h) ∙ cell-read (node_at (children c) i) p

  held-offset : (i : ℕ) → i < length (children c) → (feature_at (record_with c slots) i).offset ≡ (node_at (children c) i).at
  unfolding feature_of feature_with
  held-offset i h = ap (λ (f : Feature). f.offset) (feature-at c slots i h)

  record-isa : (record_with c slots).isa ≡ number (value_of c "isa")
  unfolding record_with
  record-isa = refl

  record-holds : Holds c (record_with c slots)
  record-holds = record {
    isa = record-isa;
    count = record-count;
    offset = λ i h. held-offset i (omega (arith, record-count));
    cells = λ i h p. held-cell i (omega (arith, record-count)) p;
  }

  held-count : (i : ℕ) → i < length (children c) → dependency_count (feature_at (record_with c slots) i) ≡ length (dependencies_of (node_at (children c) i))
  held-count i h = ap dependency_count (feature-at c slots i h) ∙ count-read (node_at (children c) i)

module _ (c : Node) (form : ContainerForm c) where
  pub form-at : (i : ℕ) → i < length (children c) → FeatureForm (take i (children c)) (node_at (children c) i)
  form-at i h = form.features (take i (children c)) (node_at (children c) i) (drop (suc i) (children c)) (node-split (children c) i h)

  found_at : (i j : ℕ) → i < length (children c) → j < length (dependencies_of (node_at (children c) i))
      → is_somewhere (carrier (children c) (get_or (dependencies_of (node_at (children c) i)) j 0)) ≡ true
  found_at i j h l = form.found (take i (children c)) (node_at (children c) i) (drop (suc i) (children c)) (node-split (children c) i h) j l

  same-carrier : (p i k : ℕ) → i < length (children c) → k < length (children c) → carries p (node_at (children c) i) ≡ true → carries p (node_at (children c) k) ≡ true → k ≡ i
  same-carrier p i k h l d e = go (dec_lt i k) (dec_lt k i)
    where
      go : Dec (i < k) → Dec (k < i) → k ≡ i
      go (yes m) q = absurd (not-twice p (children c) k i m l (form-at k l).phandle_once e d)
      go (no m) (yes q) = absurd (not-twice p (children c) i k q h (form-at i h).phandle_once d e)
      go (no m) (no q) = omega arith

  -- the rows of its features' dependencies: they all resolve
  rows : (slots : List ℕ) × Rows (children c) (children c) slots
  rows = all-rows (children c) (children c) (λ i h. (form-at i h).few) found_at

  abbrev made : Record
  made = record_with c rows.0

  record-made : made ≡ record_of c
  unfolding record_of
  record-made = sym (ap (record_by c) (rows-found (children c) rows.1))

  count-made : made.count ≡ length (children c)
  count-made = record-count c rows.0

  -- dependency j of the feature at position i
  module _ {i j : ℕ} (h : i < made.count) (l : j < dependency_count (feature_at made i)) where
    abbrev named : ℕ
    named = get_or (dependencies_of (node_at (children c) i)) j 0

    slot-carries : (slot_at made i j < length (children c)) × (carries named (node_at (children c) (slot_at made i j)) ≡ true)
    slot-carries =
        let k : i < length (children c) = omega (arith, count-made) in
        carrier-carries (children c) named (slot-at c rows.1 i j k (omega (arith, held-count c rows.0 i k)))

  made-resolved : Resolved (children c) made
  made-resolved = record {
    number = λ i h. held-count c rows.0 i (place h);
    below = λ i j h l. omega (arith, count-made, (slot-carries h l).0);
    carried = λ i j h l.
        let s = slot-carries h l in
        held-cell c rows.0 (slot_at made i j) s.0 Phandle ∙ carries-phandle (named h l) (node_at (children c) (slot_at made i j)) s.1;
    only = λ i j k h l m e.
        let s = slot-carries h l in
        same-carrier (named h l) (slot_at made i j) k s.0 (place m) s.1
        (phandle-carries (named h l) (node_at (children c) k) (sym (held-cell c rows.0 k (place m) Phandle) ∙ e));
  }
    where
      place : {i : ℕ} → i < made.count → i < length (children c)
      place h = omega (arith, count-made)

  made-zeroed : Zeroed made
  made-zeroed = record {
    features = features-length c rows.0 form.few;
    slots = record-slots c rows.1 form.few;
    no_more = λ i h. no-feature c rows.0 i (omega (arith, count-made));
    no_row = λ i j h. no-row c rows.1 i j (omega (arith, count-made));
    no_slot = λ i j h l m.
        let k : i < length (children c) = omega (arith, count-made) in no-slot c rows.1 i j k (omega (arith, held-count c rows.0 i k)) m;
  }

-- an accepted tree's record
module _ (tree : List ℕ) (z : (read_record tree).number ≡ 0) where
  abbrev form : ContainerForm (container_of tree)
  form = (read-accepted tree z).form

  same-record : made (container_of tree) form ≡ (read_record tree).value
  same-record = record-made (container_of tree) form ∙ sym (ap (λ (r : Placed Record). r.value) (read_answer tree z))

  pub read-holds : Holds (container_of tree) (read_record tree).value
  read-holds = subst (Holds (container_of tree)) same-record (record-holds (container_of tree) (rows (container_of tree) form).0)

  pub read-zeroed : Zeroed (read_record tree).value
  read-zeroed = subst Zeroed same-record (made-zeroed (container_of tree) form)

  pub read-dependencies : Resolved (features_of tree) (read_record tree).value
  read-dependencies = subst (Resolved (features_of tree)) same-record (made-resolved (container_of tree) form)

-- "otherwise 13": a tree with a dependency that no feature carries is refused
pub unfound-refused : (tree : List ℕ) (i j : ℕ) → i < length (features_of tree) → j < length (dependencies_of (node_at (features_of tree) i))
    → ((k : ℕ) → k < length (features_of tree) → carries (get_or (dependencies_of (node_at (features_of tree) i)) j 0) (node_at (features_of tree) k) ≡ false)
    → (read_record tree).number ≡ 0
    → ⊥
unfound-refused tree i j h l none z =
    let p = get_or (dependencies_of (node_at (features_of tree) i)) j 0 in
    let k = somewhere-at (carrier (features_of tree) p) (found_at (container_of tree) (read-accepted tree z).form i j h l) in
    let f = carrier-carries (features_of tree) p k.1 in
    false≢true (sym (none k.0 f.0) ∙ f.1)
