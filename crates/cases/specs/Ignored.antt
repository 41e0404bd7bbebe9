-- What grants, records and cells may differ in where no answer of the enabled set does (document 01, "Permitted and enabled").
use Rattle.std.specs.Prelude.{Option, None, Some}
use Rattle.std.specs.Prelude.{ℕ, ◌<◌, ◌≡◌, List}
use Rattle.positions.specs.Bits.{bit}
use Rattle.positions.specs.Sets.{has}
use Rattle.record.specs.declared.Record.{Record}
use Rattle.record.specs.declared.Property.{Property}
use Rattle.record.specs.Record.{feature_at}
use Rattle.record.specs.Cells.{cell}
use Rattle.permitted.specs.declared.Grants.{Grants}
use Rattle.permitted.specs.Asked.{permitted}
use Rattle.enabled.specs.Answers.{enable}
use Rattle.reach.specs.Answers.{reach_of, enable_by_table}
use Rattle.chain.specs.Chain.{chain, after_chain}

-- "Mask bits at or above the count are ignored in the first two": the own-code masks may differ in these
pub record ButAbove (n : ℕ) (g h : Grants) : Type 0 where
  pub hypervisor : (i : ℕ) → i < n → has g.hypervisor.words i ≡ has h.hypervisor.words i
  pub system : (i : ℕ) → i < n → has g.system.words i ≡ has h.system.words i
  pub hfscr : g.hfscr ≡ h.hfscr
  pub fscr : g.fscr ≡ h.fscr

-- two records may differ in the cells of one property, and in what neither a cell nor a slot of a feature below the count shows, as the
-- container's `isa` and offsets
pub record ButCells (property : Property) (r s : Record) : Type 0 where
  pub count : r.count ≡ s.count
  pub slots : r.slots ≡ s.slots
  pub cells : (i : ℕ) → i < r.count → (p : Property) → (p ≡ property → ⊥) → cell (feature_at r i) p ≡ cell (feature_at s i) p

-- no call tells two records apart: neither set nor count, neither table nor chain
pub record SameAnswers (r s : Record) : Type 0 where
  pub reach_alike : reach_of r ≡ reach_of s
  pub permitted_alike : (level : ℕ) (g : Grants) → permitted r level g ≡ permitted s level g
  pub enabled_alike : (level : ℕ) (g : Grants) → enable r level g ≡ enable s level g
  pub by_table_alike : (table : List ℕ) (level : ℕ) (g : Grants) → enable_by_table r table level g ≡ enable_by_table s table level g
  pub chain_alike : (level : ℕ) (g : Grants) (i size : ℕ) → chain r level g i size ≡ chain s level g i size
  pub chain_bytes_alike : (level : ℕ) (g : Grants) (i : ℕ) (old : List ℕ) → after_chain r level g i old ≡ after_chain s level g i old

-- "`hv-support`, `os-support`: .. Only bit 0 (HFSCR, FSCR) counts. Absent and zero differ": two values may differ in the other bits
pub data ButOtherBits : Option ℕ → Option ℕ → Type 0 where
  absent : ButOtherBits None None
  given : (m n : ℕ) → bit m 0 ≡ bit n 0 → ButOtherBits (Some m) (Some n)
