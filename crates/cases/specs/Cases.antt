-- The cases marked P (document 01, "Both sides"), as one list, and what it is for a case to hold.
use Rattle.std.specs.Prelude.{ℕ, ◌-◌, ◌≡◌, length, replicate}
use Prim.Native.String.{String}
use mathlib.Core.List.{List, [], ◌∷◌, flat_map}
use Rattle.characters.specs.Characters.{bytes}
use Rattle.refusal.specs.Refusal.{Outcome, answer, refuse}
use Rattle.cells.specs.Bytes.{cell_bytes}
use Rattle.unit.specs.Unit.{read_unit, write_unit, after_unit}
use Rattle.sizes.specs.Sizes.{page_sizes as read_page_sizes, no_sizes}
use Rattle.sizes.specs.declared.SizeTable.{SizeTable}
use Rattle.positions.specs.Sets.{set_of, no_members, first_positions}
use Rattle.record.specs.declared.Feature.{Feature}
use Rattle.record.specs.declared.Record.{Record}
use Rattle.record.specs.Record.{most_features, slot_count, no_feature}
use Rattle.permitted.specs.declared.Grants.{Grants}
use Rattle.permitted.specs.Permitted.{system}
use Rattle.enabled.specs.Answers.{Members, enable}
use Rattle.reach.specs.Answers.{reach_of, enable_by_table}
use Rattle.chain.specs.Chain.{chain, after_chain}

-- a feature that needs one other, with a value of `usable-privilege`; no support is asked of it
abbrev pub needing : ℕ → Feature
needing privilege = record {
  offset = 0;
  given = 259;
  isa = 3000;
  usable_privilege = privilege;
  hv_support = 0;
  os_support = 0;
  hfscr_bit_nr = 0;
  fscr_bit_nr = 0;
  hwcap_bit_nr = 0;
  phandle = 0;
  dependencies = 1;
}

-- A and B, which need each other: A is at position 0 and is usable at system level, B is at position 1
abbrev pub cycle : ℕ → Record
cycle privilege = record {
  isa = 3000;
  count = 2;
  features = needing 2 ∷ needing privilege ∷ replicate (most_features - 2) no_feature;
  slots = 1 ∷ replicate (slot_count - 1) 0;
}

-- one feature, usable at system level, which names itself
abbrev pub self_needing : Record
self_needing = record { isa = 3000; count = 1; features = needing 2 ∷ replicate (most_features - 1) no_feature; slots = replicate slot_count 0 }

abbrev pub no_grants : Grants
no_grants = record { hypervisor = record { words = set_of no_members }; system = record { words = set_of no_members }; hfscr = 0; fscr = 0 }

pub data Case : Type 0 where
  writes_unit : (number : ℕ) (text : String) → Case
  reads_unit : (text : String) (outcome : Outcome ℕ) → Case
  page_sizes : (exponents : List ℕ) (outcome : Outcome SizeTable) → Case
  enables : (r : Record) (level : ℕ) (g : Grants) (members : Members) → Case
  reports : (r : Record) (level : ℕ) (g : Grants) (position : ℕ) (told : List ℕ) → Case

-- a number is written into a buffer as long as the text; a text is read; cells are read as page sizes; of a record, a level and grants,
-- sweep and table give that set with that count; the chain from a position is written into a buffer that is as long
abbrev pub CaseHolds : Case → Type 0
CaseHolds (writes_unit n t) =
    (write_unit n (length (bytes t)) ≡ answer (length (bytes t))) × (after_unit n (replicate (length (bytes t)) 0) ≡ bytes t)
CaseHolds (reads_unit t o) = read_unit (bytes t) ≡ o
CaseHolds (page_sizes es o) = read_page_sizes (flat_map cell_bytes es) ≡ o
CaseHolds (enables r level g m) = (enable r level g ≡ answer m) × (enable_by_table r (reach_of r).value level g ≡ answer m)
CaseHolds (reports r level g i told) =
    (chain r level g i (length told) ≡ answer (length told)) × (after_chain r level g i (replicate (length told) 255) ≡ told)

abbrev pub CasesHold : List Case → Type 0
CasesHold [] = Unit
CasesHold (c ∷ cs) = CaseHolds c × CasesHold cs

abbrev pub cases : List Case
cases =
    -- "unit 0 is `0`; 255 is `ff`; `FFFFFFFF` is 4,294,967,295; `100000000` is 12; the empty text 20; sixteen zeros read as 0,
    -- seventeen are 20"
    writes_unit 0 "0"
    ∷ writes_unit 255 "ff"
    ∷ reads_unit "0" (answer 0)
    ∷ reads_unit "ff" (answer 255)
    ∷ reads_unit "FFFFFFFF" (answer 4294967295)
    ∷ reads_unit "100000000" (refuse 0 12)
    ∷ reads_unit "" (refuse 0 20)
    ∷ reads_unit "0000000000000000" (answer 0)
    ∷ reads_unit "00000000000000000" (refuse 0 20)
    -- "page sizes 12, 16, 24 accepted; 12, 12 is 19; 63 alone accepted, 64 is 12; no bytes 11"
    ∷ page_sizes (12 ∷ 16 ∷ 24 ∷ []) (answer (record { count = 3; exponents = 12 ∷ 16 ∷ 24 ∷ replicate 13 0 }))
    ∷ page_sizes (12 ∷ 12 ∷ []) (refuse no_sizes 19)
    ∷ page_sizes (63 ∷ []) (answer (record { count = 1; exponents = 63 ∷ replicate 15 0 }))
    ∷ page_sizes (64 ∷ []) (refuse no_sizes 12)
    ∷ page_sizes [] (refuse no_sizes 11)
    -- "A and B need each other, both permitted: both enabled. B unpermitted: none, chain of A is A, B."
    ∷ enables (cycle 2) system no_grants (record { set = first_positions 2; count = 2 })
    ∷ enables (cycle 4) system no_grants (record { set = set_of no_members; count = 0 })
    ∷ reports (cycle 4) system no_grants 0 (0 ∷ 1 ∷ [])
    -- "a ring of permitted features is enabled, a feature naming itself too"
    ∷ enables self_needing system no_grants (record { set = first_positions 1; count = 1 })
    ∷ []
