-- Programs that do not meet the demands, whatever else they do (document 01, "Promises about the outcome": "Try these against the promises").
-- Assumes nothing.
use Rattle.std.specs.Prelude.{None, Some}
use Prim.Native.Nat.{ℕ, ◌≤◌, ◌<◌}
use mathlib.Core.Path.{◌≡◌, refl, sym, ap, subst, ◌∙◌}
use mathlib.Core.Bool.{true, false, true≢false}
use mathlib.Core.List.{List, [], ◌∷◌, ◌++◌, flat_map}
use native.Mathlib.Omega.{arith}
use lib.Dec.{eqb}
use lib.ListN.{length, get_or, replicate, length-replicate}
use Rattle.refusal.specs.Refusal.{Outcome, Placed, answer, refuse}
use Rattle.cells.specs.Cells.{cells_in}
use Rattle.cells.specs.Buffer.{Stays}
use Rattle.cells.specs.Bytes.{IsCell, cell_bytes, Each}
use Rattle.cells.proofs.CellRows.{cells-back, cells-in-bytes}
use Rattle.sizes.specs.declared.SizeTable.{SizeTable}
use Rattle.sizes.specs.Sizes.{no_size, size_or_none, size_table}
use Rattle.sizes.specs.SizeCells.{SizeCells}
use Rattle.radix.specs.declared.RadixEncoding.{RadixEncoding}
use Rattle.radix.specs.declared.RadixTable.{RadixTable}
use Rattle.radix.specs.Radix.{radix_table}
use Rattle.attributes.specs.declared.PaTable.{PaTable}
use Rattle.attributes.specs.Attributes.{pa_table, edition_first, edition_later}
use Rattle.positions.specs.Below.{count}
use Rattle.positions.specs.Bits.{bit}
use Rattle.positions.specs.Sets.{has}
use Rattle.record.specs.declared.Record.{Record}
use Rattle.record.specs.declared.Property.TheVariants.{HwcapBitNr}
use Rattle.record.specs.Record.{feature_at}
use Rattle.record.specs.Cells.{bit_of, held, cell, dependency_count}
use Rattle.form.specs.WellFormed.{well_formed}
use Rattle.permitted.specs.declared.Grants.{Grants}
use Rattle.permitted.specs.Permitted.{system, hypervisor, permitted_set}
use Rattle.enabled.specs.Answers.{Members}
use Rattle.tables.specs.Tables.{in_row}
use Rattle.closure.specs.Graph.{dependencies_in, dependency_in}
use Rattle.closure.specs.Reach.{Needs, self, via}
use Rattle.walk.specs.TotalSize.{SameTree}
use Rattle.words.specs.Words.{WordValues}
use Rattle.words.specs.Capability.{CapabilityWords}
use Rattle.reading.specs.Reading.{read_record}
use Rattle.reading.specs.Example.{example_tree, older_tree, older_record, second_name_tree, two_types_tree}
use Rattle.reading.proofs.Example.{example-read, older-read, second-name-read, two-types-read}
use Rattle.reading.proofs.Dependencies.{read-holds}
use Rattle.reading.proofs.Accepts.{read-accepts}
use Rattle.cases.specs.Cases.{cycle, no_grants}
use Rattle.cases.specs.Demand2.{Demand2Tree, Demand2Sizes, Demand2Radix, Demand2Pa}
use Rattle.cases.specs.Demand3.{IsLeftOut, Demand3Calls, Demand3, Resolver}
use Rattle.cases.proofs.Cycles.{cycle-formed, blocked-formed, cycle-on, blocked-off}

-- readers
module _ (read : List ℕ → Placed Record) (d : (tree : List ℕ) → Demand2Tree read tree) where
  -- one that refuses every tree
  pub refuses-all : ((tree : List ℕ) → (read tree).number ≡ 0 → ⊥) → ⊥
  refuses-all f = f example_tree ((d example_tree).accepted.1 ((read-accepts example_tree).0 (ap (λ (p : Placed Record). p.number) example-read)))

  -- one that turns a tree away because a user feature in it has no capability bit, and one that takes none for bit 0
  older-accepted : (read older_tree).number ≡ 0
  older-accepted = (d older_tree).accepted.1 ((read-accepts older_tree).0 (ap (λ (p : Placed Record). p.number) older-read))

  pub turns-away : ((read older_tree).number ≡ 0 → ⊥) → ⊥
  turns-away f = f older-accepted

  pub none-is-bit-0 : cell (feature_at (read older_tree).value 0) HwcapBitNr ≡ Some 0 → ⊥
  unfolding older_record cell held bit_of bit
  none-is-bit-0 e =
      let h = (d older_tree).holds older-accepted in
      let k = read-holds older_tree (ap (λ (p : Placed Record). p.number) older-read) in
      let five : (read_record older_tree).value.count ≡ 5 = ap (λ (p : Placed Record). p.value.count) older-read in
      let absent : cell (feature_at (read_record older_tree).value 0) HwcapBitNr ≡ None =
      ap (λ (p : Placed Record). cell (feature_at p.value 0) HwcapBitNr) older-read in
      let same = sym e ∙ h.cells 0 (omega (arith, h.count, k.count)) HwcapBitNr ∙ sym (k.cells 0 (omega arith) HwcapBitNr) ∙ absent in
      let z : ◌≡◌ {A = ℕ} 0 1 = cc in
      omega arith

  -- one that takes the container's name in `compatible` at place 0 alone, and one that takes a `device_type` with a second string
  pub first-place-only : ((read second_name_tree).number ≡ 0 → ⊥) → ⊥
  first-place-only f = f ((d second_name_tree).accepted.1 ((read-accepts second_name_tree).0 (ap (λ (p : Placed Record). p.number) second-name-read)))

  pub second_type : (read two_types_tree).number ≡ 0 → ⊥
  second_type z =
      let a = (read-accepts two_types_tree).1 ((d two_types_tree).accepted.0 z) in
      let k : ◌≡◌ {A = ℕ} 11 0 = ap (λ (p : Placed Record). p.number) (sym two-types-read) ∙ a in
      omega arith

  -- one whose answer changes with a byte behind the total size
  pub reads-behind : (s t : List ℕ) → SameTree s t → (read s ≡ read t → ⊥) → ⊥
  reads-behind s t same f = f ((d s).behind t same)

-- a call for the words that sets a bit which is the number of no enabled feature, as bit 0 for those that have none
pub bit-of-none : (told : Outcome WordValues) (r : Record) (level : ℕ) (g : Grants) → CapabilityWords told r level g
    → ((i : ℕ) → i < r.count → cell (feature_at r i) HwcapBitNr ≡ None) → bit told.value.first 0 ≡ true → ⊥
bit-of-none told r level g c none on =
    let s = (c.first 0 (omega arith)).0 on in
    let z : ◌≡◌ {A = ℕ} 0 1 = cc (none s.position s.feature) in omega arith

-- writers into a lent buffer
module _ (write : ℕ → Outcome ℕ) (after : List ℕ → List ℕ) (d : (old : List ℕ) → Stays old 0 (write (length old)).value (after old)) where
  -- one that ends the text of 255 in a zero byte, which it does not count
  pub ends-in-zero : write 3 ≡ answer 2 → after (1 ∷ 1 ∷ 1 ∷ []) ≡ 0x66 ∷ 0x66 ∷ 0 ∷ [] → ⊥
  ends-in-zero e f =
      let later : ◌≡◌ {A = List ℕ} (0 ∷ []) (1 ∷ []) = rw (e, f) at (d (1 ∷ 1 ∷ 1 ∷ [])).later in
      let z : ◌≡◌ {A = ℕ} 0 1 = ap (λ (l : List ℕ). get_or l 0 0) later in omega arith

  -- one that is refused and clears the buffer
  pub clears-refused : write 1 ≡ refuse 0 18 → after (1 ∷ []) ≡ 0 ∷ [] → ⊥
  clears-refused e f =
      let later : ◌≡◌ {A = List ℕ} (0 ∷ []) (1 ∷ []) = rw (e, f) at (d (1 ∷ [])).later in
      let z : ◌≡◌ {A = ℕ} 0 1 = ap (λ (l : List ℕ). get_or l 0 0) later in omega arith

-- readers of segment sizes
module _ (read : List ℕ → Outcome SizeTable) (d : (value : List ℕ) → Demand2Sizes size_or_none read value) where
  -- one that refuses those of a POWER9, that drops their gaps, or that answers anything else
  pub real-gaps : (read (flat_map cell_bytes (28 ∷ 40 ∷ no_size ∷ no_size ∷ [])) ≡ answer (size_table (28 ∷ 40 ∷ no_size ∷ no_size ∷ [])) → ⊥) → ⊥
  unfolding size_or_none
  real-gaps f =
      f ((d (flat_map cell_bytes (28 ∷ 40 ∷ no_size ∷ no_size ∷ []))).answered (28 ∷ 40 ∷ no_size ∷ no_size ∷ []) record {
        few = omega arith;
        sized = record { some = omega arith; low = (omega arith, (omega arith, tt)); ascending = (omega arith, tt) };
        numbers = (omega arith, (omega arith, (omega arith, (omega arith, tt))));
        bytes = refl;
      })

  -- what it accepts of the bytes of cells has these cells
  those : (cells : List ℕ) → Each IsCell cells → (read (flat_map cell_bytes cells)).number ≡ 0 → SizeCells size_or_none cells (flat_map cell_bytes cells)
  those cells numbers z =
      let g = ((d (flat_map cell_bytes cells)).accepted (cells-in-bytes cells numbers)).0 z in
      subst (λ (l : List ℕ). SizeCells size_or_none l (flat_map cell_bytes cells)) (sym (cells-back g.0) ∙ ap cells_in (sym g.1.bytes) ∙ cells-back cells) g.1

  -- one that forgets the last size where there is a gap, and one that accepts gaps only
  pub gap-forgets : (read (flat_map cell_bytes (28 ∷ no_size ∷ 28 ∷ []))).number ≡ 0 → ⊥
  unfolding size_or_none
  gap-forgets z = absurd (omega (arith, (those (28 ∷ no_size ∷ 28 ∷ []) (omega arith, (omega arith, (omega arith, tt))) z).sized.ascending.0))

  pub gaps-only : (read (flat_map cell_bytes (no_size ∷ no_size ∷ []))).number ≡ 0 → ⊥
  unfolding size_or_none
  gaps-only z = absurd (omega (arith, (those (no_size ∷ no_size ∷ []) (omega arith, (omega arith, tt)) z).sized.some))

-- readers of radix encodings
module _ (read : List ℕ → Outcome RadixTable) (d : (value : List ℕ) → Demand2Radix read value) where
  abbrev pair : ℕ → ℕ → RadixEncoding
  pair ap exponent = record { ap = ap; exponent = exponent }

  -- one that refuses those of a POWER9, whose cells do not ascend, or that answers anything else
  pub real-encodings : let pairs = pair 0 12 ∷ pair 5 16 ∷ pair 1 21 ∷ pair 2 30 ∷ [] in
      (read (flat_map cell_bytes (0x0000000c ∷ 0xa0000010 ∷ 0x20000015 ∷ 0x4000001e ∷ [])) ≡ answer (radix_table pairs) → ⊥) → ⊥
  real-encodings f =
      f ((d (flat_map cell_bytes (0x0000000c ∷ 0xa0000010 ∷ 0x20000015 ∷ 0x4000001e ∷ []))).answered (pair 0 12 ∷ pair 5 16 ∷ pair 1 21 ∷ pair 2 30 ∷ []) record {
        some = omega arith;
        few = omega arith;
        bits = (omega arith, (omega arith, (omega arith, (omega arith, tt))));
        low = (omega arith, (omega arith, (omega arith, (omega arith, tt))));
        ascending = (omega arith, (omega arith, (omega arith, tt)));
        bytes = refl;
      })

-- readers of `ibm,pa-features`
module _ (read : ℕ → List ℕ → Outcome PaTable) (d : (value : List ℕ) → Demand2Pa read value) where
  -- one that accepts an edition 2, and one that shows the later bits in edition 0
  pub edition-2 : (value : List ℕ) → (read 2 value).number ≡ 0 → ⊥
  edition-2 value z = absurd (omega (arith, (((d value).accepted 2).0 z).0))

  pub later-shown : (value : List ℕ) → (read edition_first value).value.copy_paste ≡ 1 → ⊥
  later-shown value e = absurd (omega (arith, (d value).first.copy_paste))

  -- one that takes the bottom bit of byte 64 for the second watchpoint
  abbrev bottom_bit : List ℕ
  bottom_bit = replicate 64 0 ++ 1 ∷ []

  pub bottom-bit : (read edition_later (65 ∷ 0 ∷ bottom_bit)).value.second_watchpoint ≡ 1 → ⊥
  unfolding pa_table flat_map
  bottom-bit e =
      let told =
      (d (65 ∷ 0 ∷ bottom_bit)).later (record { type = 0; bytes = bottom_bit } ∷ []) bottom_bit
      record { within = (record { some = omega arith; few = omega arith }, tt); one = refl; bytes = refl } in
      let z : ◌≡◌ {A = ℕ} 0 1 = sym (ap (λ (o : Outcome PaTable). o.value.second_watchpoint) told) ∙ e in
      omega arith

-- resolvers
module _ (c : Resolver) (d : Demand3 c) where
  module _ (r : Record) (good : well_formed r ≡ true) (level : ℕ) (known : level ≤ hypervisor) (g : Grants) where
    calls : Demand3Calls c r level g
    calls = d.calls r good level known g

    -- a sweep or a table that refuses a well formed record
    pub sweep-refuses : ((c.sweep_call r level g).number ≡ 0 → ⊥) → ⊥
    sweep-refuses f = f (ap (λ (o : Outcome Members). o.number) calls.sweep_answer)

    pub table-refuses : ((c.table_call r).number ≡ 0 → ⊥) → ⊥
    table-refuses f = f (ap (λ (o : Outcome (List ℕ)). o.number) calls.table_answer)

    -- a count that is not that of the members
    pub count-invented : ((c.sweep_call r level g).value.count ≡ count r.count (has (c.sweep_call r level g).value.set) → ⊥) → ⊥
    count-invented f =
        let e = calls.sweep_answer in
        f (ap (λ (o : Outcome Members). o.value.count) e ∙ ap (λ (o : Outcome Members). count r.count (has o.value.set)) (sym e))

    -- a set that has a feature and lacks one of its dependencies
    pub dependency-lacks : (i j : ℕ) → i < r.count → has (c.sweep_call r level g).value.set i ≡ true → j < dependencies_in r i
        → has (c.sweep_call r level g).value.set (dependency_in r i j) ≡ false → ⊥
    dependency-lacks i j low on h off =
        let e = ap (λ (o : Outcome Members). o.value.set) calls.sweep_answer in
        let member = ap (λ (s : List ℕ). has s i) (sym e) ∙ on in
        true≢false (sym (calls.sets.closed i low member j h) ∙ ap (λ (s : List ℕ). has s (dependency_in r i j)) (sym e) ∙ off)

    -- a chain that is refused in a buffer that is long enough
    pub chain-refuses : (i : ℕ) → IsLeftOut r (permitted_set r level g) i → (buffer : List ℕ) → r.count ≤ length buffer
        → ((c.chain_call r level g i (length buffer)).number ≡ 0 → ⊥) → ⊥
    chain-refuses i out buffer long f = f (ap (λ (o : Outcome ℕ). o.number) (calls.chain_answer i out buffer long))

  -- a chain that is always refused: A of two features that need each other, the other unpermitted, has one
  pub chain-never-told : ((r : Record) (level : ℕ) (g : Grants) (i size : ℕ) → (c.chain_call r level g i size).number ≡ 0 → ⊥) → ⊥
  chain-never-told f =
      let buffer : List ℕ = replicate 2 0 in
      chain-refuses (cycle 4) blocked-formed system (omega arith) no_grants 0 (omega arith, blocked-off) buffer (omega (arith, length-replicate {A = ℕ} 2 0))
      (f (cycle 4) system no_grants 0 (length buffer))

  -- a reach table in which each feature has itself alone: A needs B
  pub itself-alone : ((r : Record) (i t : ℕ) → in_row (c.table_call r).value i t ≡ eqb i t) → ⊥
  unfolding dependency_count cell held bit_of bit
  itself-alone f =
      let two = calls (cycle 2) cycle-formed system (omega arith) no_grants in
      let needs : Needs (dependencies_in (cycle 2)) (dependency_in (cycle 2)) 0 1 = via {i = 0} 0 (omega arith) self in
      true≢false
      (sym ((two.sets.rows 0 1 (omega arith) (omega arith)).1 needs)
      ∙ ap (λ (o : Outcome (List ℕ)). in_row o.value 0 1) (sym two.table_answer)
      ∙ f (cycle 2) 0 1)

  -- a resolver that enables nobody: two permitted features that need each other are enabled
  pub enables-nobody : ((r : Record) (level : ℕ) (g : Grants) (i : ℕ) → has (c.sweep_call r level g).value.set i ≡ false) → ⊥
  enables-nobody f =
      true≢false
      (sym cycle-on
      ∙ ap (λ (o : Outcome Members). has o.value.set 0) (sym (calls (cycle 2) cycle-formed system (omega arith) no_grants).sweep_answer)
      ∙ f (cycle 2) system no_grants 0)
