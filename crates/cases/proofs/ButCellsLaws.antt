-- Two records that differ in the cells of one property which decides nothing: the same permitted positions, enabled positions and chains; and
-- which of them are well formed. Assumes nothing.
use Rattle.std.specs.Prelude.{Option}
use Prim.Native.Nat.{ℕ, ◌+◌, ◌*◌, ◌/◌, ◌%◌, ◌^◌, ◌<◌}
use mathlib.Core.Path.{◌≡◌, refl, sym, ap, ap₂, subst, ◌∙◌}
use mathlib.Core.Bool.{Bool, true, false, true≢false, ◌&&◌}
use mathlib.Core.List.{List}
use native.Mathlib.Omega.{arith}
use lib.Dec.{ltb}
use lib.ListN.{get_or}
use Rattle.positions.specs.Below.{some}
use Rattle.positions.specs.Bits.{bit}
use Rattle.positions.specs.Sets.{set_words, room, has, collect}
use Rattle.positions.proofs.SetLaws.{collect-same}
use Rattle.record.specs.declared.Record.{Record}
use Rattle.record.specs.declared.Property.{Property}
use Rattle.record.specs.declared.Property.TheVariants.{Isa, UsablePrivilege, HvSupport, OsSupport, HfscrBitNr, FscrBitNr, HwcapBitNr, Phandle, Dependencies}
use Rattle.record.specs.Record.{most_dependencies, highest_hwcap_bit, feature_at}
use Rattle.record.specs.Cells.{cell, low_bit, number_in, dependency_count}
use Rattle.form.specs.Formed.{InRange, Formed}
use Rattle.form.specs.WellFormed.{well_formed}
use Rattle.form.proofs.Formed.{formed}
use Rattle.permitted.specs.declared.Grants.{Grants}
use Rattle.permitted.specs.Permitted.{system, hypervisor, permitted_set}
use Rattle.permitted.proofs.GrantLaws.{permits-same}
use Rattle.tables.specs.Tables.{table_of}
use Rattle.tables.proofs.TableLaws.{table_same}
use Rattle.closure.specs.Graph.{Below, dependencies_in, dependency_in}
use Rattle.closure.specs.Enabled.{enabled}
use Rattle.closure.specs.Reach.{reach}
use Rattle.closure.specs.Shortest.{shortest_chain}
use Rattle.closure.proofs.Sweeps.{sweeps-agree}
use Rattle.closure.proofs.SameChains.{chains-agree}
use Rattle.enabled.specs.Answers.{enabled_set}
use Rattle.reach.specs.Answers.{reach_table}
use Rattle.chain.specs.Chain.{is_enabled, chain_in}
use Rattle.words.specs.Words.{word_of, is_number, capability_bit, support_bit, capability_word, register_word, words_of}
use Rattle.cases.specs.Ignored.{ButCells}
use Rattle.cases.proofs.GraphLaws.{some_same, reach-same}

-- the properties whose cells decide what is enabled
abbrev pub decides : Property → Bool
decides Isa = false
decides UsablePrivilege = true
decides HvSupport = true
decides OsSupport = true
decides HfscrBitNr = true
decides FscrBitNr = true
decides HwcapBitNr = false
decides Phandle = false
decides Dependencies = true

pub but-back : (property : Property) (r s : Record) → ButCells property r s → ButCells property s r
but-back property r s b = record {
  count = sym b.count;
  slots = sym b.slots;
  cells = λ i l p apart. sym (b.cells i (omega (arith, b.count)) p apart);
}

module _ (property : Property) (r s : Record) (b : ButCells property r s) (free : decides property ≡ false) where
  counts : r.count ≡ s.count
  counts = b.count

  slots : r.slots ≡ s.slots
  slots = b.slots

  agree : (p : Property) → decides p ≡ true → (i : ℕ) → i < r.count → cell (feature_at r i) p ≡ cell (feature_at s i) p
  agree p d i l = b.cells i l p (λ e. true≢false (sym d ∙ ap decides e ∙ free))

  numbers : (i : ℕ) → i < r.count → dependencies_in r i ≡ dependencies_in s i
  unfolding dependency_count
  numbers i l = ap number_in (agree Dependencies refl i l)

  pub same-permitted : (level : ℕ) (g : Grants) → permitted_set r level g ≡ permitted_set s level g
  same-permitted level g =
      permits-same r s level g counts
      (λ i l. record {
        privilege = agree UsablePrivilege refl i l;
        hv-support = agree HvSupport refl i l;
        os-support = agree OsSupport refl i l;
        hfscr = agree HfscrBitNr refl i l;
        fscr = agree FscrBitNr refl i l;
      })

  -- where one is well formed, so is the other if its capability bits are in range
  pub formed-too : Formed r → ((i : ℕ) → i < r.count → InRange highest_hwcap_bit (cell (feature_at s i) HwcapBitNr)) → Formed s
  formed-too f low = record {
    few = omega (arith, f.few);
    each = λ i h.
        let l : i < r.count = omega (arith, counts) in
        let e = f.each i l in
        record {
          hfscr = subst (InRange _) (agree HfscrBitNr refl i l) e.hfscr;
          fscr = subst (InRange _) (agree FscrBitNr refl i l) e.fscr;
          hwcap = low i l;
          hfscr_given = rw (← (agree HvSupport refl i l), ← (agree HfscrBitNr refl i l)) e.hfscr_given;
          fscr_given = rw (← (agree OsSupport refl i l), ← (agree FscrBitNr refl i l)) e.fscr_given;
          few = omega (arith, numbers i l, e.few);
          below = λ j k. rw (← slots) (omega (arith, counts, e.below j (omega (arith, numbers i l))));
        };
  }

  -- the dependencies of a well formed record lead to positions below the count, where both have the same
  module _ (good : well_formed r ≡ true) where
    graph : Below r.count (dependencies_in r) (dependency_in r)
    graph = record { below = λ i h j l. ((formed r good).each i h).below j l }

    pub same-enabled : (p : List ℕ) (i : ℕ) → i < r.count → is_enabled r p i ≡ is_enabled s p i
    same-enabled p i l =
        sweeps-agree r.count (dependencies_in r) (dependencies_in s) (dependency_in r) (has p) (has p) graph (λ i l. refl) (λ i l e. numbers i l) r.count i l
        ∙ (λ k. enabled (dependencies_in s) (λ (i j : ℕ). get_or (slots k) (most_dependencies * i + j) 0) (has p) (counts k) i)

    pub same_set : (p : List ℕ) → enabled_set r p ≡ enabled_set s p
    unfolding enabled_set
    same_set p =
        collect-same set_words r.count (is_enabled r p) (is_enabled s p) (same-enabled p) ∙ ap (λ (n : ℕ). collect set_words n (is_enabled s p)) counts

    pub same-table : reach_table r ≡ reach_table s
    unfolding reach_table
    same-table =
        table_same r.count (reach (dependencies_in r) (dependency_in r) r.count) (reach (dependencies_in s) (dependency_in r) r.count) (formed r good).few
        (λ i t l h. reach-same r.count (dependencies_in r) (dependencies_in s) (dependency_in r) graph numbers r.count i t l)
        ∙ (λ k. table_of (counts k) (reach (dependencies_in s) (λ (i j : ℕ). get_or (slots k) (most_dependencies * i + j) 0) (counts k)))

    pub same-chain : (p : List ℕ) (i : ℕ) → i < r.count → is_enabled r p i ≡ false → chain_in r p i ≡ chain_in s p i
    unfolding chain_in
    same-chain p i l out =
        let few = (formed r good).few in
        chains-agree r.count (dependencies_in r) (dependencies_in s) (dependency_in r) (has p) (has p) graph (λ i l. refl) (λ i l e. numbers i l) room
        (omega arith) r.count i l out
        ∙ (λ k. shortest_chain (dependencies_in s) (λ (i j : ℕ). get_or (slots k) (most_dependencies * i + j) 0) (has p) room (counts k) i)

  -- the words of an enabled set, where the property is not the capability bit
  support-same : (enabled : List ℕ) (p q : Property) → decides p ≡ true → decides q ≡ true → (x : ℕ) → support_bit r enabled p q x ≡ support_bit s enabled p q x
  unfolding support_bit
  support-same enabled p q dp dq x =
      some_same r.count (λ (i : ℕ). has enabled i && low_bit (cell (feature_at r i) p) && is_number (cell (feature_at r i) q) x)
      (λ (i : ℕ). has enabled i && low_bit (cell (feature_at s i) p) && is_number (cell (feature_at s i) q) x)
      (λ i l. ap₂ (λ (c d : Option ℕ). has enabled i && low_bit c && is_number d x) (agree p dp i l) (agree q dq i l))
      ∙ ap (λ (n : ℕ). some n (λ (i : ℕ). has enabled i && low_bit (cell (feature_at s i) p) && is_number (cell (feature_at s i) q) x)) counts

  register-same : (level : ℕ) (enabled : List ℕ) (upper : ℕ) (p q : Property) → decides p ≡ true → decides q ≡ true → (granted : ℕ)
      → register_word r level enabled upper p q granted ≡ register_word s level enabled upper p q granted
  unfolding register_word
  register-same level enabled upper p q dp dq granted =
      λ k. word_of (λ (x : ℕ). ltb level upper && (bit granted x && support-same enabled p q dp dq x k))

  module _ (apart : HwcapBitNr ≡ property → ⊥) where
    bits-same : (enabled : List ℕ) (x : ℕ) → capability_bit r enabled x ≡ capability_bit s enabled x
    unfolding capability_bit
    bits-same enabled x =
        some_same r.count (λ (i : ℕ). has enabled i && is_number (cell (feature_at r i) HwcapBitNr) x)
        (λ (i : ℕ). has enabled i && is_number (cell (feature_at s i) HwcapBitNr) x)
        (λ i l. ap (λ (c : Option ℕ). has enabled i && is_number c x) (b.cells i l HwcapBitNr apart))
        ∙ ap (λ (n : ℕ). some n (λ (i : ℕ). has enabled i && is_number (cell (feature_at s i) HwcapBitNr) x)) counts

    first-same : (level : ℕ) (enabled : List ℕ) → capability_word r level enabled ≡ capability_word s level enabled
    unfolding capability_word
    first-same level enabled = λ k. word_of (λ (x : ℕ). ltb level system && bits-same enabled x k)

    pub same-words : (level : ℕ) (g : Grants) (enabled : List ℕ) → words_of r level g enabled ≡ words_of s level g enabled
    unfolding words_of
    same-words level g enabled =
        let c = first-same level enabled in
        let h = register-same level enabled hypervisor HvSupport HfscrBitNr refl refl g.hfscr in
        let f = register-same level enabled system OsSupport FscrBitNr refl refl g.fscr in
        λ k. record { first = c k % 2 ^ 32; second = c k / 2 ^ 32; hfscr = h k; fscr = f k }
