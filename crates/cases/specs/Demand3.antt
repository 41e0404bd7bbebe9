-- Demand 3, in its own words: of a record and any set of permitted positions; and of the calls of a resolver, at a level under grants.
use Rattle.std.specs.Prelude.{ℕ, ◌≤◌, ◌<◌, min, ◌≡◌, Bool, true, false, List, ◌↔◌, length}
use Rattle.refusal.specs.Refusal.{Outcome, answer}
use Rattle.cells.specs.Buffer.{written}
use Rattle.positions.specs.Below.{count}
use Rattle.positions.specs.Sets.{room, has, member_count}
use Rattle.record.specs.declared.Record.{Record}
use Rattle.record.specs.Record.{most_features}
use Rattle.form.specs.WellFormed.{well_formed}
use Rattle.reading.specs.Reading.{read_record}
use Rattle.permitted.specs.declared.Grants.{Grants}
use Rattle.permitted.specs.Permitted.{hypervisor, permitted_set}
use Rattle.permitted.specs.Asked.{dependency_counts, permitted}
use Rattle.tables.specs.Tables.{in_row, rows_inside}
use Rattle.closure.specs.Graph.{dependencies_in, dependency_in}
use Rattle.closure.specs.Enabled.{Within, Closed, Largest}
use Rattle.closure.specs.Chain.{Chain, Smallest}
use Rattle.closure.specs.Reach.{Needs}
use Rattle.closure.specs.Slots.{closed_part}
use Rattle.enabled.specs.Answers.{Members, enabled_set, enable}
use Rattle.reach.specs.Answers.{reach_table, reach_of, enable_by_table}
use Rattle.chain.specs.Chain.{chain_in, chain, after_chain}
use Rattle.chain.specs.Slots.{chain_by_slots, after_chain_by_slots}

-- of a record and a set of permitted positions: whether a position is enabled; that one is a feature that is left out; and the chains from
-- one to an unpermitted one
module _ (r : Record) (permitted_ones : List ℕ) where
  abbrev pub is_on : ℕ → Bool
  is_on i = has (enabled_set r permitted_ones) i

  abbrev pub IsLeftOut : ℕ → Type 0
  IsLeftOut i = (i < r.count) × (is_on i ≡ false)

  abbrev pub ChainFrom : ℕ → List ℕ → Type 0
  ChainFrom i c = Chain (dependencies_in r) (dependency_in r) (has permitted_ones) i c

-- a record and a set of permitted positions: that of a level under grants, or any other
pub record Demand3Set (r : Record) (permitted_ones : List ℕ) : Type 0 where
  -- "The plain sweep and the quick road over its stored reach table give the same set": by slots, by the rows of the table
  pub by_sweep : closed_part r.slots (dependency_counts r) r.count permitted_ones ≡ enabled_set r permitted_ones
  pub by_table : rows_inside (reach_table r) (min r.count most_features) permitted_ones ≡ enabled_set r permitted_ones
  -- a row of the table has a feature "itself and all it needs, directly or not"
  pub rows : (i t : ℕ) → i < r.count → t < room → in_row (reach_table r) i t ≡ true ↔ Needs (dependencies_in r) (dependency_in r) i t
  -- its members are features of the record, and the count is their number
  pub features : (i : ℕ) → is_on r permitted_ones i ≡ true → i < r.count
  pub number : member_count (enabled_set r permitted_ones) ≡ count r.count (is_on r permitted_ones)
  -- "All its members are permitted"
  pub permitted : Within r.count (is_on r permitted_ones) (has permitted_ones)
  -- "each member's dependencies are members too"
  pub closed : Closed r.count (dependencies_in r) (dependency_in r) (is_on r permitted_ones)
  -- "Every other set of features of which both can be said lies inside it"
  pub largest : (s : ℕ → Bool) → Within r.count s (has permitted_ones) → Closed r.count (dependencies_in r) (dependency_in r) s
      → Within r.count s (is_on r permitted_ones)
  -- no other set is so
  pub only : (s : ℕ → Bool) → Largest (dependencies_in r) (dependency_in r) (has permitted_ones) r.count s
      → (i : ℕ) → i < r.count → s i ≡ is_on r permitted_ones i
  -- "A feature is left out exactly when a chain of dependencies leads from it to an unpermitted feature"
  pub left_out : (i : ℕ) → i < r.count → is_on r permitted_ones i ≡ false ↔ ((c : List ℕ) × ChainFrom r permitted_ones i c)
  -- "For each feature left out, the chain reported is such a chain, and every other such chain from that feature is at least as long"; of
  -- the equally short ones it has the smallest positions, and no more than there are features
  pub reported : (i : ℕ) → IsLeftOut r permitted_ones i
      → Smallest (dependencies_in r) (dependency_in r) (has permitted_ones) i (chain_in r permitted_ones i)
  pub fits : (i : ℕ) → IsLeftOut r permitted_ones i → length (chain_in r permitted_ones i) ≤ r.count
  -- the call by slots is not refused in a buffer of as many bytes as there are features, and writes that chain
  pub slots_answer : (i : ℕ) → IsLeftOut r permitted_ones i → (buffer : List ℕ) → r.count ≤ length buffer
      → chain_by_slots r.slots (dependency_counts r) r.count permitted_ones i (length buffer) ≡ answer (length (chain_in r permitted_ones i))
  pub slots_written : (i : ℕ) → IsLeftOut r permitted_ones i → (buffer : List ℕ) → r.count ≤ length buffer
      → after_chain_by_slots r.slots (dependency_counts r) r.count permitted_ones i buffer ≡ written buffer 0 (chain_in r permitted_ones i)

-- the calls of a resolver: what each answers of a record, a level and grants, and the later bytes of a buffer that is lent for a chain
pub record Resolver : Type 0 where
  pub permitted_call : Record → ℕ → Grants → Outcome (List ℕ)
  pub sweep_call : Record → ℕ → Grants → Outcome Members
  pub table_call : Record → Outcome (List ℕ)
  pub by_table_call : Record → List ℕ → ℕ → Grants → Outcome Members
  pub chain_call : Record → ℕ → Grants → ℕ → ℕ → Outcome ℕ
  pub buffer_after : Record → ℕ → Grants → ℕ → List ℕ → List ℕ

-- a record, a level and grants: all that is said of the sets; and no call is refused, but answers them
pub record Demand3Calls (c : Resolver) (r : Record) (level : ℕ) (g : Grants) : Type 0 where
  pub sets : Demand3Set r (permitted_set r level g)
  pub permitted_answer : c.permitted_call r level g ≡ answer (permitted_set r level g)
  -- the sweep: the set, and as count the number of its members
  pub sweep_answer : c.sweep_call r level g
      ≡ answer (record { set = enabled_set r (permitted_set r level g); count = count r.count (is_on r (permitted_set r level g)) })
  -- the reach table, and by it the same answer
  pub table_answer : c.table_call r ≡ answer (reach_table r)
  pub by_table_answer : c.by_table_call r (reach_table r) level g ≡ c.sweep_call r level g
  -- the chain of a feature left out, in a buffer of as many bytes as there are features
  pub chain_answer : (i : ℕ) → IsLeftOut r (permitted_set r level g) i → (buffer : List ℕ) → r.count ≤ length buffer
      → c.chain_call r level g i (length buffer) ≡ answer (length (chain_in r (permitted_set r level g) i))
  pub chain_written : (i : ℕ) → IsLeftOut r (permitted_set r level g) i → (buffer : List ℕ) → r.count ≤ length buffer
      → c.buffer_after r level g i buffer ≡ written buffer 0 (chain_in r (permitted_set r level g) i)

-- "Take any well formed feature record, as every one that the reader accepts is, any level (user, system, hypervisor) and any grants"
pub record Demand3 (c : Resolver) : Type 0 where
  pub read : (tree : List ℕ) → (read_record tree).number ≡ 0 → well_formed (read_record tree).value ≡ true
  pub sets : (r : Record) → well_formed r ≡ true → (permitted_ones : List ℕ) → Demand3Set r permitted_ones
  pub calls : (r : Record) → well_formed r ≡ true → (level : ℕ) → level ≤ hypervisor → (g : Grants) → Demand3Calls c r level g

-- the calls of this library, by the definitions that their promises cite
abbrev pub resolver : Resolver
resolver = record {
  permitted_call = permitted;
  sweep_call = enable;
  table_call = reach_of;
  by_table_call = enable_by_table;
  chain_call = chain;
  buffer_after = after_chain;
}
