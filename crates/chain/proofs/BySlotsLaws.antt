-- How the call for a chain by slots ends: by the graph of the positions whose dependencies are among the first n. Assumes nothing.
use Rattle.std.specs.Prelude.{Result}
use Rattle.refusal.specs.declared.Refusal.{Refusal}
use Prim.Native.Nat.{ℕ, ◌≤◌, ◌<◌, min}
use mathlib.Core.Path.{◌≡◌, refl, sym, ap, ◌∙◌}
use mathlib.Core.Bool.{Bool, true, false, ◌&&◌, cond}
use mathlib.Core.List.{List}
use native.Mathlib.Omega.{arith}
use borrow.Author.Tests.{lt-ltb}
use lib.Dec.{eqb}
use lib.ListN.{length, get_or}
use Rattle.refusal.specs.Refusal.{answer, refuse}
use Rattle.refusal.specs.Checks.{first_fault}
use Rattle.cells.specs.Buffer.{written, after_writing}
use Rattle.positions.specs.Below.{some}
use Rattle.positions.specs.Sets.{set_words, room, has, common}
use Rattle.positions.proofs.BelowLaws.{and_right}
use Rattle.positions.proofs.SetLaws.{has-collect}
use Rattle.positions.proofs.MemberLaws.{common-member}
use Rattle.record.specs.Record.{most_features, most_dependencies}
use Rattle.tables.specs.Slots.{slot_number, slot_of}
use Rattle.tables.specs.Tables.{row_at, dependency_table}
use Rattle.tables.proofs.DependencyLaws.{in_slots}
use Rattle.tables.proofs.TableLaws.{in_table}
use Rattle.closure.specs.Shortest.{shortest_chain}
use Rattle.closure.specs.Slots.{slots_below, permitted_among}
use Rattle.closure.proofs.Sweeps.{sweeps-agree}
use Rattle.closure.proofs.SameChains.{chains-agree}
use Rattle.closure.proofs.BoundLaws.{number_within, number-within, graph-within}
use Rattle.enabled.specs.Parts.{Shows}
use Rattle.chain.specs.Chain.{chain_outcome}
use Rattle.chain.specs.Slots.{slot_chain, slot_checks, chain_by_slots, after_chain_by_slots}
use Rattle.chain.specs.Layers.{graph_checks, ShowsSome, Tells}
use Rattle.chain.specs.Parts.{BoundedPart}
use Rattle.chain.specs.declared.Bounded.{Bounded}
use Rattle.chain.proofs.PositionLaws.{position-same}

-- the table of the counts that are left for the first n positions, at most 64 of those that are asked for
module _ (slots counts : List ℕ) (asked : ℕ) {n : ℕ} (most : n ≡ min asked most_features) {x : Bounded} (part : BoundedPart slots counts n x) {table : List ℕ}
    (rows : table ≡ dependency_table slots x.counts n) where
  few : n ≤ most_features
  few = omega arith

  left-number : (i : ℕ) → i < n → slot_number x.counts i ≡ number_within slots counts n i
  left-number i h = ap (λ (c : ℕ). min c most_dependencies) (part.counted i h) ∙ go (slots_below slots counts n i)
    where
      go : (b : Bool) → min (cond b (get_or counts i 0) 0) most_dependencies ≡ cond b (slot_number counts i) 0
      go true = refl
      go false = refl

  shows : Shows (number_within slots counts n) (slot_of slots) n (row_at table)
  unfolding dependency_table in_slots
  shows = record {
    below = graph-within slots counts n;
    rows = λ i t h l.
        ap (λ (w : List ℕ). has (row_at w i) t) rows
        ∙ in_table (in_slots slots x.counts) (min n most_features) i t (omega (arith, few)) l
        ∙ ap (λ (m : ℕ). some m (λ (j : ℕ). eqb (slot_of slots i j) t)) (left-number i h);
  }

  pub slots-shown : ShowsSome n table
  slots-shown = record { num = number_within slots counts n; dep = slot_of slots; shows = shows }

  -- the set handed in, without the positions whose dependencies are not among the n
  module _ (p : List ℕ) {both : List ℕ} (meet : both ≡ common p x.set.words) (i : ℕ) where
    allowed : (j : ℕ) → j < n → has both j ≡ permitted_among slots counts n p j
    allowed j h =
        ap (λ (w : List ℕ). has w j) meet
        ∙ common-member p x.set.words j (omega (arith, few))
        ∙ ap (λ (b : Bool). has p j && b)
        (ap (λ (w : List ℕ). has w j) part.members
        ∙ has-collect set_words n (slots_below slots counts n) few j
        ∙ ap (λ (b : Bool). b && slots_below slots counts n j) (lt-ltb j n h))

    alike : (j : ℕ) → j < n → has both j ≡ true → number_within slots counts n j ≡ slot_number counts j
    alike j h e = number-within slots counts n j (and_right (has p j) (slots_below slots counts n j) (sym (allowed j h) ∙ e))

    ends-alike : {A : Type 0} (refused : ℕ → A) (value : List ℕ → A) (size : ℕ)
        → first_fault refused (graph_checks (number_within slots counts n) (slot_of slots) n both i size)
        (value (shortest_chain (number_within slots counts n) (slot_of slots) (has both) room n i))
        ≡ first_fault refused (slot_checks slots counts n p i size) (value (slot_chain slots counts n p i))
    unfolding graph_checks slot_checks slot_chain
    ends-alike refused value size =
        position-same refused value n n i size _ _ _ _ refl
        (λ l. sweeps-agree n (number_within slots counts n) (slot_number counts) (slot_of slots) (has both) (permitted_among slots counts n p)
        (graph-within slots counts n) allowed alike n i l)
        (λ l out. chains-agree n (number_within slots counts n) (slot_number counts) (slot_of slots) (has both) (permitted_among slots counts n p)
        (graph-within slots counts n) allowed alike room few n i l out)

    module _ {old new : List ℕ} {t : Result ℕ Refusal} (tells : Tells table n both i old new t) where
      outcome : chain_outcome t ≡ chain_by_slots slots counts asked p i (length old)
      unfolding chain_by_slots
      outcome =
          tells.outcome (number_within slots counts n) (slot_of slots) shows
          ∙ ends-alike (refuse 0) (λ (c : List ℕ). answer (length c)) (length old)
          ∙ ap (λ (m : ℕ). first_fault (refuse 0) (slot_checks slots counts m p i (length old)) (answer (length (slot_chain slots counts m p i)))) most

      bytes : new ≡ after_chain_by_slots slots counts asked p i old
      unfolding after_chain_by_slots after_writing
      bytes =
          tells.bytes (number_within slots counts n) (slot_of slots) shows
          ∙ ends-alike (λ (k : ℕ). old) (written old 0) (length old)
          ∙ ap (λ (m : ℕ). after_writing (slot_checks slots counts m p i (length old)) old 0 (slot_chain slots counts m p i)) most

      pub slots-tell : (chain_outcome t ≡ chain_by_slots slots counts asked p i (length old)) × (new ≡ after_chain_by_slots slots counts asked p i old)
      slots-tell = (outcome, bytes)
