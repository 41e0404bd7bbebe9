-- Demand 3: every well formed record, and with it that of every tree that is accepted; every set of permitted positions, and with it that of
-- every level and all grants. Assumes nothing.
use Prim.Native.Nat.{ℕ, ◌≤◌, ◌<◌, min}
use mathlib.Core.Path.{◌≡◌, refl, sym, ap, ◌∙◌}
use mathlib.Core.Bool.{Bool, true, false, not, ◌&&◌, ◌||◌}
use mathlib.Core.List.{List}
use mathlib.Core.Logic.{◌↔◌}
use native.Mathlib.Omega.{arith}
use borrow.Author.Tests.{lt-ltb, ltb-true}
use lib.Dec.{ltb}
use lib.ListN.{length, replicate}
use Rattle.refusal.specs.Refusal.{answer, refuse}
use Rattle.refusal.specs.Checks.{first_fault}
use Rattle.refusal.proofs.Checks.{passes}
use Rattle.positions.specs.Below.{count}
use Rattle.positions.specs.Sets.{set_words, room, has, set_of, no_members, member_count}
use Rattle.positions.proofs.BelowLaws.{and_left, every-same, count_same}
use Rattle.positions.proofs.MemberLaws.{count-collect}
use Rattle.positions.proofs.SetLaws.{has-collect, collect-same}
use Rattle.record.specs.declared.Record.{Record}
use Rattle.record.specs.Record.{most_features}
use Rattle.form.specs.WellFormed.{well_formed}
use Rattle.form.proofs.Formed.{formed}
use Rattle.reading.proofs.Formed.{read-formed}
use Rattle.permitted.specs.declared.Grants.{Grants}
use Rattle.permitted.specs.Permitted.{hypervisor, permitted_set}
use Rattle.permitted.specs.Asked.{asked_checks, permitted as permitted_of}
use Rattle.permitted.proofs.AskedLaws.{all-good, asked-answered}
use Rattle.tables.specs.Tables.{in_row, table_words, table_of, rows_inside}
use Rattle.tables.proofs.TableLaws.{in_table}
use Rattle.closure.specs.Graph.{dependencies_in, dependency_in}
use Rattle.closure.specs.Enabled.{Within, Closed, Largest}
use Rattle.closure.specs.Reach.{Needs, reach, enabled_by_reach}
use Rattle.closure.proofs.Demand3 as sets
use Rattle.enabled.specs.Answers.{members_of, nobody, enabled_set, enable}
use Rattle.enabled.proofs.CountLaws.{record-counts}
use Rattle.enabled.proofs.DependencyLaws.{graph-below as graph, record-closed}
use Rattle.reach.specs.Answers.{reach_table, reach_of, enabled_by_table, enable_by_table}
use Rattle.chain.specs.Chain.{is_enabled}
use Rattle.chain.proofs.Told.{told-smallest, told-fits, told-slots, told-slots-bytes, told-length, told-bytes}
use Rattle.cases.specs.Demand3.{IsLeftOut, ChainFrom, Demand3Set, Demand3Calls, Demand3, resolver}

module _ (r : Record) (e : well_formed r ≡ true) where
  few : r.count ≤ room
  few = let f = (formed r e).few in omega arith

  -- any set of permitted positions P, and the enabled set E
  module _ (P : List ℕ) where
    abbrev E : List ℕ
    E = enabled_set r P

    -- a member of the enabled set is below the count, and a position below it is a member where it is enabled
    member : (i : ℕ) → has E i ≡ ltb i r.count && is_enabled r P i
    unfolding enabled_set
    member i = has-collect set_words r.count (is_enabled r P) few i

    inside : (i : ℕ) → i < r.count → has E i ≡ is_enabled r P i
    inside i h = member i ∙ rw (lt-ltb i r.count h)

    off : (i : ℕ) → IsLeftOut r P i → is_enabled r P i ≡ false
    off i o = sym (inside i o.0) ∙ o.1

    member_below : (i : ℕ) → has E i ≡ true → i < r.count
    member_below i h = ltb-true i r.count (and_left _ _ (sym (member i) ∙ h))

    -- 1. the sweep and enabling by the reach table give the same set
    row_same : (i : ℕ) → i < r.count → enabled_by_reach (in_row (reach_table r)) (has P) room i ≡ is_enabled r P i
    unfolding reach_table
    row_same i h =
        every-same room (λ (t : ℕ). not (in_row (table_of r.count (reach (dependencies_in r) (dependency_in r) r.count)) i t) || has P t)
        (λ (t : ℕ). not (reach (dependencies_in r) (dependency_in r) r.count i t) || has P t)
        (λ t l. ap (λ (b : Bool). not b || has P t) (in_table (reach (dependencies_in r) (dependency_in r) r.count) r.count i t h l))
        ∙ sets.same_set (dependencies_in r) (dependency_in r) (has P) r.count (graph r e) room few i h

    same_set : enabled_by_table r (reach_table r) P ≡ E
    unfolding enabled_by_table enabled_set
    same_set = collect-same set_words r.count (enabled_by_reach (in_row (reach_table r)) (has P) room) (is_enabled r P) row_same

    inside-rows : rows_inside (reach_table r) (min r.count most_features) P ≡ E
    unfolding rows_inside enabled_by_table
    inside-rows = let n : min r.count most_features ≡ r.count = omega (arith, few) in rw n same_set

    -- 1. t is in row i of the reach table exactly when i needs t, directly or not, or is t
    in-row : (i t : ℕ) → i < r.count → t < room → in_row (reach_table r) i t ≡ true ↔ Needs (dependencies_in r) (dependency_in r) i t
    unfolding reach_table
    in-row i t h l =
        let q = in_table (reach (dependencies_in r) (dependency_in r) r.count) r.count i t h l in
        let w = sets.in-row (dependencies_in r) (dependency_in r) (has P) r.count (graph r e) room few i t h in
        (λ k. w.0 (sym q ∙ k), λ n. q ∙ w.1 n)

    -- the count: no position from the record's count on is counted
    number : member_count E ≡ count r.count (has E)
    unfolding enabled_set
    number = count-collect r.count (is_enabled r P) few ∙ count_same r.count (is_enabled r P) (has E) (λ i h. sym (inside i h))

    -- 2. all its members are permitted
    members-permitted : Within r.count (has E) (has P)
    members-permitted i l h =
        sets.members-permitted (dependencies_in r) (dependency_in r) (has P) r.count (graph r e) room few i l (sym (inside i l) ∙ h)

    -- 3. each member's dependencies are members too
    dependencies-members : Closed r.count (dependencies_in r) (dependency_in r) (has E)
    dependencies-members i l h j k =
        inside (dependency_in r i j) ((graph r e).below i l j k)
        ∙ sets.dependencies-members (dependencies_in r) (dependency_in r) (has P) r.count (graph r e) room few i l (sym (inside i l) ∙ h) j k

    -- 4. every other set of which both can be said lies inside it, and no other set is so
    others-inside : (s : ℕ → Bool) → Within r.count s (has P) → Closed r.count (dependencies_in r) (dependency_in r) s → Within r.count s (has E)
    others-inside s p c i h k =
        inside i h ∙ sets.others-inside (dependencies_in r) (dependency_in r) (has P) r.count (graph r e) room few s p c i h k

    only : (s : ℕ → Bool) → Largest (dependencies_in r) (dependency_in r) (has P) r.count s → (i : ℕ) → i < r.count → s i ≡ has E i
    only s m i h = sets.only_one (dependencies_in r) (dependency_in r) (has P) r.count (graph r e) room few s m i h ∙ sym (inside i h)

    -- 5. a feature is left out exactly when a chain of dependencies leads from it to an unpermitted one
    left_out : (i : ℕ) → i < r.count → has E i ≡ false ↔ ((c : List ℕ) × ChainFrom r P i c)
    left_out i h =
        let w = sets.left_out (dependencies_in r) (dependency_in r) (has P) r.count (graph r e) room few i h in
        (λ k. w.0 (sym (inside i h) ∙ k), λ c. inside i h ∙ w.1 c)

    of-set : Demand3Set r P
    of-set = record {
      by_sweep = record-closed r e (record-counts r e) P;
      by_table = inside-rows;
      rows = in-row;
      features = member_below;
      number = number;
      permitted = members-permitted;
      closed = dependencies-members;
      largest = others-inside;
      only = only;
      left_out = left_out;
      reported = λ i o. told-smallest r e P i o.0 (off i o);
      fits = λ i o. told-fits r e P i o.0 (off i o);
      slots_answer = λ i o buffer l. told-slots r e P i o.0 (off i o) (record-counts r e) (length buffer) l;
      slots_written = λ i o buffer l. told-slots-bytes r e P i o.0 (off i o) (record-counts r e) buffer l;
    }

  -- the calls, at a level under grants
  module _ (level : ℕ) (known : level ≤ hypervisor) (g : Grants) where
    abbrev permits : List ℕ
    permits = permitted_set r level g

    -- what a call answers that asks for the form of the record and the level only
    asked : {A : Type 0} (zeros value : A) → first_fault (refuse zeros) (asked_checks r level) (answer value) ≡ answer value
    asked zeros value = sym (asked-answered r level zeros value (all-good r level e known) refl)

    sweep-answers : enable r level g ≡ answer (record { set = enabled_set r permits; count = count r.count (has (enabled_set r permits)) })
    unfolding enable
    sweep-answers =
        asked nobody (members_of (enabled_set r permits))
        ∙ ap (λ (n : ℕ). answer (record { set = enabled_set r permits; count = n })) (number permits)

    table-answers : reach_of r ≡ answer (reach_table r)
    unfolding reach_of
    table-answers = passes (refuse (replicate table_words 0)) _ _ (rw e tt, tt)

    by-table-answers : enable_by_table r (reach_table r) level g ≡ enable r level g
    unfolding enable_by_table enable
    by-table-answers = ap (λ (words : List ℕ). first_fault (refuse nobody) (asked_checks r level) (answer (members_of words))) (same_set permits)

    permitted-answers : permitted_of r level g ≡ answer permits
    unfolding permitted_of
    permitted-answers = asked (set_of no_members) permits

    of_calls : Demand3Calls resolver r level g
    of_calls = record {
      sets = of-set permits;
      permitted_answer = permitted-answers;
      sweep_answer = sweep-answers;
      table_answer = table-answers;
      by_table_answer = by-table-answers;
      chain_answer = λ i o buffer l. told-length r level g i e known o.0 (off permits i o) (length buffer) l;
      chain_written = λ i o buffer l. told-bytes r level g i e known o.0 (off permits i o) buffer l;
    }

pub demand-3 : Demand3 resolver
demand-3 = record { read = read-formed; sets = of-set; calls = of_calls }
