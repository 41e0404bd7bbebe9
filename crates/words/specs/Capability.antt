-- What the capability words say (document 01, "Permitted and enabled": "Words"; A2).
use Rattle.std.specs.Prelude.{ℕ, ◌+◌, ◌^◌, ◌<◌, ◌≡◌, true, List, ◌↔◌, Some}
use Rattle.refusal.specs.Refusal.{Outcome}
use Rattle.positions.specs.Bits.{bit}
use Rattle.positions.specs.Sets.{has}
use Rattle.record.specs.declared.Record.{Record}
use Rattle.record.specs.declared.Property.TheVariants.{HwcapBitNr}
use Rattle.record.specs.Record.{feature_at}
use Rattle.record.specs.Cells.{cell}
use Rattle.permitted.specs.declared.Grants.{Grants}
use Rattle.permitted.specs.Permitted.{system, permitted_set}
use Rattle.enabled.specs.Answers.{enabled_set}
use Rattle.words.specs.Words.{WordValues}

-- "at user level each enabled feature sets its `hwcap-bit-nr`": one that has number b is there
pub record SetsBit (r : Record) (level : ℕ) (enabled : List ℕ) (b : ℕ) : Type 0 where
  pub at_user : level < system
  pub position : ℕ
  pub feature : position < r.count
  pub on : has enabled position ≡ true
  pub number : cell (feature_at r position) HwcapBitNr ≡ Some b

-- what is answered of a record, a level and grants: it is not refused, and a bit of the words is set exactly where an enabled feature has its
-- number, "0 to 31 in the first word, 32 to 63 in the second"; so "a feature with none .. adds nothing to the capability words". The words
-- have no other bits
pub record CapabilityWords (told : Outcome WordValues) (r : Record) (level : ℕ) (g : Grants) : Type 0 where
  pub answered : told.number ≡ 0
  pub first : (b : ℕ) → b < 32 → bit told.value.first b ≡ true ↔ SetsBit r level (enabled_set r (permitted_set r level g)) b
  pub second : (b : ℕ) → b < 32 → bit told.value.second b ≡ true ↔ SetsBit r level (enabled_set r (permitted_set r level g)) (32 + b)
  pub first_bits : told.value.first < 2 ^ 32
  pub second_bits : told.value.second < 2 ^ 32
