-- The chain told: a chain, a shortest one, and the smallest of those; it fits a buffer of as many bytes as the record has features. Assumes nothing.
use Prim.Native.Nat.{ℕ, ◌≤◌, ◌<◌, min}
use mathlib.Core.Path.{◌≡◌, sym, ap, ◌∙◌}
use mathlib.Core.Bool.{Bool, true, false}
use mathlib.Core.List.{List}
use native.Mathlib.Omega.{arith}
use lib.Dec.{le→leb, lt→ltb}
use lib.ListN.{length}
use Rattle.refusal.specs.Refusal.{answer, refuse}
use Rattle.refusal.specs.Checks.{first_fault}
use Rattle.refusal.proofs.Checks.{Passes, passes}
use Rattle.cells.specs.Buffer.{written, after_writing}
use Rattle.cells.proofs.Writing.{passed-writes}
use Rattle.positions.specs.Sets.{room, has}
use Rattle.record.specs.declared.Record.{Record}
use Rattle.record.specs.Record.{most_features}
use Rattle.form.specs.WellFormed.{well_formed}
use Rattle.permitted.specs.declared.Grants.{Grants}
use Rattle.permitted.specs.Permitted.{hypervisor, permitted_set}
use Rattle.permitted.specs.Asked.{asked_checks}
use Rattle.tables.specs.Slots.{slot_number, slot_of}
use Rattle.closure.specs.Enabled.{enabled}
use Rattle.closure.specs.Slots.{permitted_among}
use Rattle.closure.specs.Graph.{Below, dependencies_in, dependency_in}
use Rattle.closure.specs.Chain.{Chain, Shortest, Smallest}
use Rattle.enabled.specs.Parts.{CountsOf}
use Rattle.enabled.proofs.DependencyLaws.{graph-below, record-number, record-permitted, record-enabled}
use Rattle.enabled.proofs.AnswerLaws.{few}
use Rattle.closure.proofs.SameChains.{chains-agree}
use Rattle.closure.proofs.Demand3.{reported-chain, reported-shortest, reported-smallest, reported-fits}
use Rattle.chain.specs.Chain.{is_enabled, chain_in, chain_checks, chain, after_chain}
use Rattle.chain.specs.Slots.{slot_chain, slot_checks, chain_by_slots, after_chain_by_slots}

-- a position of a well formed record that is not enabled, where the members of a set are permitted
module _ (r : Record) (good : well_formed r ≡ true) (permitted : List ℕ) (i : ℕ) (low : i < r.count) (out : is_enabled r permitted i ≡ false) where
  graph : Below r.count (dependencies_in r) (dependency_in r)
  graph = graph-below r good

  -- "A chain starts at the feature asked about, each next is a dependency of the one before, the last is unpermitted"
  pub told-chain : Chain (dependencies_in r) (dependency_in r) (has permitted) i (chain_in r permitted i)
  unfolding chain_in
  told-chain = reported-chain (dependencies_in r) (dependency_in r) (has permitted) r.count graph room (few r good) i low out

  -- "every other chain from that feature is at least as long"
  pub told-shortest : Shortest (dependencies_in r) (dependency_in r) (has permitted) i (chain_in r permitted i)
  unfolding chain_in
  told-shortest =
      record { chain = told-chain; shortest = reported-shortest (dependencies_in r) (dependency_in r) (has permitted) r.count graph room (few r good) i low out }

  -- "Among equally short ones it is the one with the smallest positions, compared from the front"
  pub told-smallest : Smallest (dependencies_in r) (dependency_in r) (has permitted) i (chain_in r permitted i)
  unfolding chain_in
  told-smallest =
      record { short = told-shortest; smallest = reported-smallest (dependencies_in r) (dependency_in r) (has permitted) r.count graph room (few r good) i low out }

  pub told-fits : length (chain_in r permitted i) ≤ r.count
  unfolding chain_in
  told-fits = reported-fits (dependencies_in r) (dependency_in r) (has permitted) r.count graph room (few r good) i low out

  -- the call for it by the record's slots, and the counts of its features
  module _ {counts : List ℕ} (k : CountsOf r counts) where
    abbrev allowed : ℕ → Bool
    allowed = permitted_among r.slots counts r.count permitted

    slots-out : enabled (slot_number counts) (slot_of r.slots) allowed r.count i ≡ false
    slots-out = sym (record-enabled r good k permitted i low) ∙ out

    slots-chain : slot_chain r.slots counts r.count permitted i ≡ chain_in r permitted i
    unfolding slot_chain chain_in
    slots-chain =
        sym (chains-agree r.count (dependencies_in r) (slot_number counts) (dependency_in r) (has permitted) allowed graph (record-permitted r good k permitted)
        (λ j h e. record-number r good k j h) room (few r good) r.count i low out)

    slots-hold : (size : ℕ) → r.count ≤ size → Passes (slot_checks r.slots counts r.count permitted i size)
    unfolding slot_checks
    slots-hold size h =
        let told = slot_chain r.slots counts r.count permitted i in
        let fits = ap length slots-chain in
        (lt→ltb i r.count low, (rw slots-out tt, (le→leb (length told) size (omega (arith, told-fits)), tt)))

    -- with a buffer of at least as many bytes as there are features it is not refused
    slots-told : {A : Type 0} (refused : ℕ → A) (value : List ℕ → A) (size : ℕ) → r.count ≤ size
        → first_fault refused (slot_checks r.slots counts (min r.count most_features) permitted i size)
        (value (slot_chain r.slots counts (min r.count most_features) permitted i))
        ≡ value (chain_in r permitted i)
    slots-told refused value size h =
        let all : min r.count most_features ≡ r.count = omega (arith, few r good) in
        rw all (passes refused _ _ (slots-hold size h) ∙ ap value slots-chain)

    pub told-slots : (size : ℕ) → r.count ≤ size → chain_by_slots r.slots counts r.count permitted i size ≡ answer (length (chain_in r permitted i))
    unfolding chain_by_slots
    told-slots = slots-told (refuse 0) (λ (c : List ℕ). answer (length c))

    pub told-slots-bytes : (old : List ℕ) → r.count ≤ length old
        → after_chain_by_slots r.slots counts r.count permitted i old ≡ written old 0 (chain_in r permitted i)
    unfolding after_chain_by_slots after_writing
    told-slots-bytes old = slots-told (λ (n : ℕ). old) (written old 0) (length old)

-- the call for such a position, at a level under grants, with a buffer of at least as many bytes as there are features
module _ (r : Record) (level : ℕ) (g : Grants) (i : ℕ) (good : well_formed r ≡ true) (known : level ≤ hypervisor) (low : i < r.count)
    (out : is_enabled r (permitted_set r level g) i ≡ false) where
  all_hold : (size : ℕ) → r.count ≤ size → Passes (chain_checks r level g i size)
  unfolding chain_checks asked_checks
  all_hold size h =
      let told = chain_in r (permitted_set r level g) i in
      let fits = told-fits r good (permitted_set r level g) i low out in
      (rw good tt, (le→leb level hypervisor known, (lt→ltb i r.count low, (rw out tt, (le→leb (length told) size (omega arith), tt)))))

  -- it is not refused
  pub told-length : (size : ℕ) → r.count ≤ size → chain r level g i size ≡ answer (length (chain_in r (permitted_set r level g) i))
  unfolding chain
  told-length size h = passes (refuse 0) _ _ (all_hold size h)

  -- the chain stands in front of what the buffer held
  pub told-bytes : (old : List ℕ) → r.count ≤ length old → after_chain r level g i old ≡ written old 0 (chain_in r (permitted_set r level g) i)
  unfolding after_chain
  told-bytes old h = passed-writes _ _ _ _ (all_hold (length old) h)
