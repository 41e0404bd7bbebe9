-- Features that need each other, and one that needs itself, through the calls: antt computes the sets, demand 3 says what is answered. Assumes
-- nothing.
use Prim.Native.Nat.{ℕ, ◌≤◌, ◌<◌}
use mathlib.Core.Path.{◌≡◌, refl, sym, ap, ap₂, ◌∙◌}
use mathlib.Core.Bool.{true, false}
use mathlib.Core.List.{List, [], ◌∷◌}
use native.Mathlib.Omega.{arith}
use lib.ListN.{length, replicate, length-replicate}
use Rattle.refusal.specs.Refusal.{Outcome, answer}
use Rattle.cells.specs.Buffer.{written}
use Rattle.positions.specs.Below.{every, count}
use Rattle.positions.specs.Bits.{bit}
use Rattle.positions.specs.Sets.{has, insert_at, collect, set_of, no_members, first_positions, member_count}
use Rattle.record.specs.declared.Record.{Record}
use Rattle.record.specs.Cells.{bit_of, held, cell, dependency_count}
use Rattle.form.specs.WellFormed.{bits_fit, slot_below, slots_fit, well_formed}
use Rattle.permitted.specs.declared.Grants.{Grants}
use Rattle.permitted.specs.Permitted.{system, hypervisor, by_register, is_supported_below, is_permitted, permitted_set}
use Rattle.closure.specs.Enabled.{after_sweeps}
use Rattle.closure.specs.Shortest.{smallest_of, chain_within}
use Rattle.enabled.specs.Answers.{enabled_set}
use Rattle.reach.specs.Answers.{enable_by_table}
use Rattle.chain.specs.Chain.{chain_in, chain}
use Rattle.cases.specs.Demand3.{is_on, Demand3Calls, resolver}
use Rattle.cases.specs.Cases.{cycle, self_needing, no_grants, CaseHolds, enables, reports}
use Rattle.cases.proofs.Demand3.{demand-3}

-- a well formed record at a level under grants, by the set that is permitted
module _ (r : Record) (good : well_formed r ≡ true) (level : ℕ) (known : level ≤ hypervisor) (g : Grants) {p : List ℕ} (permits : permitted_set r level g ≡ p) where
  calls : Demand3Calls resolver r level g
  calls = demand-3.calls r good level known g

  -- the set that is enabled, and the number of its members
  pub enables-is : {s : List ℕ} {n : ℕ} → enabled_set r p ≡ s → member_count s ≡ n → CaseHolds (enables r level g (record { set = s; count = n }))
  enables-is {s} {n} on number =
      let same : enabled_set r (permitted_set r level g) ≡ s = ap (enabled_set r) permits ∙ on in
      let swept = calls.sweep_answer
      ∙ ap₂ (λ (w : List ℕ) (m : ℕ). answer (record { set = w; count = m })) same (sym calls.sets.number ∙ ap member_count same ∙ number) in
      (swept, ap (λ (o : Outcome (List ℕ)). enable_by_table r o.value level g) calls.table_answer ∙ calls.by_table_answer ∙ swept)

  -- the chain from a position, and that it fills a buffer as long as it is
  pub reports-is : {told : List ℕ} (i : ℕ) → i < r.count → has (enabled_set r p) i ≡ false → chain_in r p i ≡ told → r.count ≤ length told
      → written (replicate (length told) 255) 0 told ≡ told → CaseHolds (reports r level g i told)
  reports-is {told} i low out is long fills =
      let buffer : List ℕ = replicate (length told) 255 in
      let size : length buffer ≡ length told = length-replicate (length told) 255 in
      let off : has (enabled_set r (permitted_set r level g)) i ≡ false = ap (λ (q : List ℕ). has (enabled_set r q) i) permits ∙ out in
      let same : chain_in r (permitted_set r level g) i ≡ told = ap (λ (q : List ℕ). chain_in r q i) permits ∙ is in (
        ap (chain r level g i) (sym size) ∙ calls.chain_answer i (low, off) buffer (omega arith) ∙ ap (λ (c : List ℕ). answer (length c)) same,
        calls.chain_written i (low, off) buffer (omega arith) ∙ ap (written buffer 0) same ∙ fills,
      )

-- A and B are permitted
pub cycle-formed : well_formed (cycle 2) ≡ true
unfolding every bit bit_of held cell dependency_count bits_fit slot_below slots_fit well_formed
cycle-formed = refl

cycle-permitted : permitted_set (cycle 2) system no_grants ≡ 3 ∷ []
unfolding bit has insert_at collect set_of no_members bit_of held cell by_register is_supported_below is_permitted permitted_set
cycle-permitted = refl

cycle-enabled : enabled_set (cycle 2) (3 ∷ []) ≡ first_positions 2
unfolding every bit has insert_at collect set_of first_positions bit_of held cell dependency_count after_sweeps enabled_set
cycle-enabled = refl

-- position 0 is enabled
pub cycle-on : is_on (cycle 2) (permitted_set (cycle 2) system no_grants) 0 ≡ true
unfolding has bit first_positions set_of collect insert_at
cycle-on = ap (λ (p : List ℕ). has (enabled_set (cycle 2) p) 0) cycle-permitted ∙ ap (λ (s : List ℕ). has s 0) cycle-enabled

pub cycle-holds : CaseHolds (enables (cycle 2) system no_grants (record { set = first_positions 2; count = 2 }))
unfolding member_count count has bit first_positions set_of collect insert_at
cycle-holds = enables-is (cycle 2) cycle-formed system (omega arith) no_grants cycle-permitted cycle-enabled refl

-- B is not permitted
pub blocked-formed : well_formed (cycle 4) ≡ true
unfolding every bit bit_of held cell dependency_count bits_fit slot_below slots_fit well_formed
blocked-formed = refl

blocked-permitted : permitted_set (cycle 4) system no_grants ≡ 1 ∷ []
unfolding bit has insert_at collect set_of no_members bit_of held cell by_register is_supported_below is_permitted permitted_set
blocked-permitted = refl

blocked-enabled : enabled_set (cycle 4) (1 ∷ []) ≡ set_of no_members
unfolding every bit has insert_at collect set_of no_members bit_of held cell dependency_count after_sweeps enabled_set
blocked-enabled = refl

blocked-chain : chain_in (cycle 4) (1 ∷ []) 0 ≡ 0 ∷ 1 ∷ []
unfolding every bit has bit_of held cell dependency_count after_sweeps smallest_of chain_within chain_in
blocked-chain = refl

-- position 0 is not enabled
pub blocked-off : is_on (cycle 4) (permitted_set (cycle 4) system no_grants) 0 ≡ false
unfolding has bit set_of no_members collect insert_at
blocked-off = ap (λ (p : List ℕ). has (enabled_set (cycle 4) p) 0) blocked-permitted ∙ ap (λ (s : List ℕ). has s 0) blocked-enabled

pub blocked-holds : CaseHolds (enables (cycle 4) system no_grants (record { set = set_of no_members; count = 0 }))
unfolding member_count count has bit set_of no_members collect insert_at
blocked-holds = enables-is (cycle 4) blocked-formed system (omega arith) no_grants blocked-permitted blocked-enabled refl

pub blocked-reported : CaseHolds (reports (cycle 4) system no_grants 0 (0 ∷ 1 ∷ []))
unfolding has bit set_of no_members collect insert_at written
blocked-reported =
    reports-is (cycle 4) blocked-formed system (omega arith) no_grants blocked-permitted 0 (omega arith) (ap (λ (s : List ℕ). has s 0) blocked-enabled) blocked-chain (omega arith) refl

-- a feature that names itself
self-formed : well_formed self_needing ≡ true
unfolding every bit bit_of held cell dependency_count bits_fit slot_below slots_fit well_formed
self-formed = refl

self-permitted : permitted_set self_needing system no_grants ≡ 1 ∷ []
unfolding bit has insert_at collect set_of no_members bit_of held cell by_register is_supported_below is_permitted permitted_set
self-permitted = refl

self-enabled : enabled_set self_needing (1 ∷ []) ≡ first_positions 1
unfolding every bit has insert_at collect set_of first_positions bit_of held cell dependency_count after_sweeps enabled_set
self-enabled = refl

pub self-holds : CaseHolds (enables self_needing system no_grants (record { set = first_positions 1; count = 1 }))
unfolding member_count count has bit first_positions set_of collect insert_at
self-holds = enables-is self_needing self-formed system (omega arith) no_grants self-permitted self-enabled refl
