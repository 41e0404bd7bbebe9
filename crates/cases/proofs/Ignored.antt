-- "Mask bits at or above the count are ignored in the first two", "`isa` filters nothing here", nor does a capability bit, and of `hv-support`
-- and `os-support` "Only bit 0 .. counts": no answer tells. Assumes nothing.
use Rattle.std.specs.Prelude.{Option, None}
use Prim.Native.Nat.{ℕ, ◌<◌}
use mathlib.Core.Path.{◌≡◌, refl, sym, ap, subst, ◌∙◌}
use mathlib.Core.Bool.{Bool, true, false}
use mathlib.Core.List.{List, [], ◌++◌}
use native.Mathlib.Omega.{arith}
use lib.Dec.{leb}
use lib.ListN.{length, replicate}
use Rattle.refusal.specs.Refusal.{answer, refuse}
use Rattle.refusal.specs.Checks.{Check, first_fault}
use Rattle.refusal.proofs.Checks.{check-same}
use Rattle.cells.specs.Buffer.{written, after_writing}
use Rattle.positions.specs.Sets.{set_words, room, has, collect, set_of, no_members}
use Rattle.record.specs.declared.Record.{Record}
use Rattle.record.specs.declared.Property.{Property}
use Rattle.record.specs.declared.Property.TheVariants.{Isa, HwcapBitNr}
use Rattle.record.specs.Record.{highest_hwcap_bit, feature_at}
use Rattle.record.specs.Cells.{cell, low_bit}
use Rattle.form.specs.Formed.{InRange}
use Rattle.form.specs.WellFormed.{well_formed}
use Rattle.form.proofs.Formed.{formed, formed-passes}
use Rattle.permitted.specs.declared.Grants.{Grants}
use Rattle.permitted.specs.Permitted.{hypervisor, by_register, is_supported, permitted_set}
use Rattle.permitted.specs.Asked.{asked_checks, permitted}
use Rattle.permitted.proofs.GrantLaws.{only_below}
use Rattle.tables.specs.Tables.{in_row, table_words}
use Rattle.closure.specs.Reach.{enabled_by_reach}
use Rattle.enabled.specs.Answers.{members_of, nobody, enabled_set, enable}
use Rattle.reach.specs.Answers.{reach_of, enabled_by_table, enable_by_table}
use Rattle.chain.specs.Chain.{is_enabled, chain_in, position_checks, chain_checks, chain, after_chain}
use Rattle.chain.proofs.PositionLaws.{position-same}
use Rattle.words.specs.Words.{WordValues, no_words, words_of, words}
use Rattle.cases.specs.Ignored.{ButAbove, ButCells, SameAnswers, ButOtherBits, absent, given}
use Rattle.cases.proofs.ButCellsLaws.{decides, but-back, same-permitted as permits-alike, formed-too, same-enabled, same_set, same-table, same-chain, same-words}

-- grants that differ only in mask bits at or above the count
module _ (r : Record) (level : ℕ) (g h : Grants) (a : ButAbove r.count g h) where
  same-permitted : permitted_set r level g ≡ permitted_set r level h
  same-permitted = only_below r level g h (λ i l. record { hypervisor = a.hypervisor i l; system = a.system i l }) a.hfscr a.fscr

  pub permitted-masks : permitted r level g ≡ permitted r level h
  unfolding permitted
  permitted-masks = ap (λ (p : List ℕ). first_fault (refuse (set_of no_members)) (asked_checks r level) (answer p)) same-permitted

  pub enable-masks : enable r level g ≡ enable r level h
  unfolding enable
  enable-masks = ap (λ (p : List ℕ). first_fault (refuse nobody) (asked_checks r level) (answer (members_of (enabled_set r p)))) same-permitted

  pub by-table-masks : (table : List ℕ) → enable_by_table r table level g ≡ enable_by_table r table level h
  unfolding enable_by_table
  by-table-masks table =
      ap (λ (p : List ℕ). first_fault (refuse nobody) (asked_checks r level) (answer (members_of (enabled_by_table r table p)))) same-permitted

  checks-masks : (i size : ℕ) → chain_checks r level g i size ≡ chain_checks r level h i size
  unfolding chain_checks
  checks-masks i size = ap (λ (p : List ℕ). asked_checks r level ++ position_checks r.count i (is_enabled r p i) (chain_in r p i) size) same-permitted

  pub chain-masks : (i size : ℕ) → chain r level g i size ≡ chain r level h i size
  unfolding chain
  chain-masks i size = λ k. first_fault (refuse 0) (checks-masks i size k) (answer (length (chain_in r (same-permitted k) i)))

  pub after-chain-masks : (i : ℕ) (old : List ℕ) → after_chain r level g i old ≡ after_chain r level h i old
  unfolding after_chain
  after-chain-masks i old = λ k. after_writing (checks-masks i (length old) k) old 0 (chain_in r (same-permitted k) i)

  words-of-masks : (enabled : List ℕ) → words_of r level g enabled ≡ words_of r level h enabled
  unfolding words_of
  words-of-masks enabled = let p = a.hfscr in let q = a.fscr in rw (p, q)

  pub words-masks : words r level g ≡ words r level h
  unfolding words
  words-masks =
      ap (λ (v : WordValues). first_fault (refuse no_words) (asked_checks r level) (answer v))
      (words-of-masks (enabled_set r (permitted_set r level g)) ∙ ap (λ (p : List ℕ). words_of r level h (enabled_set r p)) same-permitted)

-- records that differ in the cells of a property that decides nothing, both well formed or neither
module _ (property : Property) (r s : Record) (b : ButCells property r s) (free : decides property ≡ false) (form : well_formed r ≡ well_formed s) where
  asked : {A : Type 0} (refused : ℕ → A) (level : ℕ) (cs ds : List (Check ℕ)) (x y : A)
      → (well_formed r ≡ true → first_fault refused cs x ≡ first_fault refused ds y)
      → first_fault refused (asked_checks r level ++ cs) x ≡ first_fault refused (asked_checks s level ++ ds) y
  unfolding asked_checks
  asked refused level cs ds x y f =
      check-same refused (well_formed r) (well_formed s) 14 _ _ x y form
      (λ good. check-same refused (leb level hypervisor) (leb level hypervisor) 15 cs ds x y refl (λ known. f good))

  -- "for each feature itself and all it needs"
  reach-cells : reach_of r ≡ reach_of s
  unfolding reach_of first_fault
  reach-cells =
      check-same (refuse (replicate table_words 0)) (well_formed r) (well_formed s) 14 [] [] _ _ form (λ good. ap answer (same-table property r s b free good))

  module _ (level : ℕ) (g : Grants) where
    permits : permitted_set r level g ≡ permitted_set s level g
    permits = permits-alike property r s b free level g

    enables : well_formed r ≡ true → enabled_set r (permitted_set r level g) ≡ enabled_set s (permitted_set s level g)
    enables good = same_set property r s b free good (permitted_set r level g) ∙ ap (enabled_set s) permits

    permitted-cells : permitted r level g ≡ permitted s level g
    unfolding permitted asked_checks first_fault
    permitted-cells = asked (refuse (set_of no_members)) level [] [] _ _ (λ good. ap answer permits)

    enable-cells : enable r level g ≡ enable s level g
    unfolding enable asked_checks first_fault
    enable-cells = asked (refuse nobody) level [] [] _ _ (λ good. ap (λ (e : List ℕ). answer (members_of e)) (enables good))

    by-table-cells : (table : List ℕ) → enable_by_table r table level g ≡ enable_by_table s table level g
    unfolding enable_by_table enabled_by_table asked_checks first_fault
    by-table-cells table =
        asked (refuse nobody) level [] [] _ _
        (λ good.
        let n = b.count in
        λ k. answer (members_of (collect set_words (n k) (enabled_by_reach (in_row table) (has (permits k)) room))))

    words-cells : (HwcapBitNr ≡ property → ⊥) → words r level g ≡ words s level g
    unfolding words asked_checks first_fault
    words-cells apart =
        asked (refuse no_words) level [] [] _ _
        (λ good.
        ap answer
        (same-words property r s b free apart level g (enabled_set r (permitted_set r level g)) ∙ ap (words_of s level g) (enables good)))

    -- the chain told, or its bytes
    told : {A : Type 0} (refused : ℕ → A) (value : List ℕ → A) (i size : ℕ)
        → first_fault refused (chain_checks r level g i size) (value (chain_in r (permitted_set r level g) i))
        ≡ first_fault refused (chain_checks s level g i size) (value (chain_in s (permitted_set s level g) i))
    unfolding chain_checks
    told {A} refused value i size =
        asked refused level _ _ _ _
        (λ good.
        position-same refused value r.count s.count i size _ _ _ _ b.count
        (λ l. same-enabled property r s b free good (permitted_set r level g) i l ∙ ap (λ (p : List ℕ). is_enabled s p i) permits)
        (λ l out. same-chain property r s b free good (permitted_set r level g) i l out ∙ ap (λ (p : List ℕ). chain_in s p i) permits))

    chain-cells : (i size : ℕ) → chain r level g i size ≡ chain s level g i size
    unfolding chain
    chain-cells i size = told (refuse 0) (λ (c : List ℕ). answer (length c)) i size

    after-chain-cells : (i : ℕ) (old : List ℕ) → after_chain r level g i old ≡ after_chain s level g i old
    unfolding after_chain after_writing
    after-chain-cells i old = told (λ (n : ℕ). old) (written old 0) i (length old)

  same-answers : SameAnswers r s
  same-answers = record {
    reach_alike = reach-cells;
    permitted_alike = permitted-cells;
    enabled_alike = enable-cells;
    by_table_alike = λ table level g. by-table-cells level g table;
    chain_alike = chain-cells;
    chain_bytes_alike = after-chain-cells;
  }

-- "`isa` filters nothing here"
apart : HwcapBitNr ≡ Isa → ⊥
apart e = let z : ◌≡◌ {A = ℕ} 0 1 = cc in omega arith

formed-isa : (r s : Record) → ButCells Isa r s → well_formed r ≡ true → well_formed s ≡ true
formed-isa r s b good =
    let f = formed r good in
    formed-passes s (formed-too Isa r s b refl f (λ i l. subst (InRange highest_hwcap_bit) (b.cells i l HwcapBitNr apart) (f.each i l).hwcap))

both_ways : (x y : Bool) → (x ≡ true → y ≡ true) → (y ≡ true → x ≡ true) → x ≡ y
both_ways true y f g = sym (f refl)
both_ways false true f g = g refl
both_ways false false f g = refl

module _ (r s : Record) (b : ButCells Isa r s) where
  pub well-formed-isa : well_formed r ≡ well_formed s
  well-formed-isa = both_ways (well_formed r) (well_formed s) (formed-isa r s b) (formed-isa s r (but-back Isa r s b))

  pub same-isa : SameAnswers r s
  same-isa = same-answers Isa r s b refl well-formed-isa

  pub words-isa : (level : ℕ) (g : Grants) → words r level g ≡ words s level g
  words-isa level g = words-cells Isa r s b refl well-formed-isa level g apart

-- (A2) "a feature with none can be enabled": a record whose features have other capability bits, or none, gives the same answers; and no
-- capability bit is ever missing
module _ (r s : Record) (b : ButCells HwcapBitNr r s) (good : well_formed r ≡ true) where
  pub same-capability : well_formed s ≡ true → SameAnswers r s
  same-capability other = same-answers HwcapBitNr r s b refl (good ∙ sym other)

  pub none-required : ((i : ℕ) → i < r.count → cell (feature_at s i) HwcapBitNr ≡ None) → well_formed s ≡ true
  none-required none =
      formed-passes s
      (formed-too HwcapBitNr r s b refl (formed r good)
      (λ i l n e. let z : ◌≡◌ {A = ℕ} 0 1 = cc (none i l) in absurd (omega arith)))

-- values of `hv-support` or `os-support` that differ in other bits than bit 0: what is asked of a feature is the same, and so is the test by
-- which a record is well formed and a bit is set in a word
pub same-support : {c d : Option ℕ} → ButOtherBits c d → (number : Option ℕ) (mask : ℕ) (own_code : Bool)
    → is_supported c number mask own_code ≡ is_supported d number mask own_code
unfolding by_register
same-support absent number mask own_code = refl
same-support (given m n e) number mask own_code = rw e

pub same-low-bit : {c d : Option ℕ} → ButOtherBits c d → low_bit c ≡ low_bit d
same-low-bit absent = refl
same-low-bit (given m n e) = e
