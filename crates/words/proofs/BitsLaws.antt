-- The bits of the enabled features, one feature after the other. Assumes nothing.
use Prim.Native.Nat.{ℕ, ◌+◌, ◌/◌, ◌%◌, ◌^◌}
use mathlib.Core.Path.{◌≡◌, refl, ap, subst, ◌∙◌}
use mathlib.Core.Bool.{Bool, false, ◌&&◌}
use mathlib.Core.List.{List}
use native.Mathlib.Numerals.{add-one}
use lib.Bits.{bit_and, bit_or}
use Rattle.positions.specs.Below.{some}
use Rattle.positions.specs.Sets.{has}
use Rattle.record.specs.declared.Record.{Record}
use Rattle.record.specs.declared.Property.{Property}
use Rattle.record.specs.declared.Property.TheVariants.{HvSupport, OsSupport, HfscrBitNr, FscrBitNr, HwcapBitNr}
use Rattle.permitted.specs.declared.Grants.{Grants}
use Rattle.permitted.specs.Permitted.{system, hypervisor}
use Rattle.positions.specs.Bits.{bit}
use Rattle.record.specs.Record.{feature_at}
use Rattle.record.specs.Cells.{cell, low_bit}
use Rattle.words.specs.declared.Bits.{Bits}
use Rattle.words.specs.Words.{WordValues, capability_word, register_word, words_of, word_of, is_number, capability_bit, support_bit}
use Rattle.words.specs.Parts.{below_level, bit_where, FeatureBits, bits_of_both, BitsOf, levelled}
use Rattle.words.proofs.WordLaws.{word_and, word-below, word_none, word-or}

-- the tests of one feature
abbrev capability_test : Record → List ℕ → ℕ → ℕ → Bool
capability_test r enabled i b = has enabled i && is_number (cell (feature_at r i) HwcapBitNr) b

abbrev support_test : Record → List ℕ → Property → Property → ℕ → ℕ → Bool
support_test r enabled support number i b = has enabled i && low_bit (cell (feature_at r i) support) && is_number (cell (feature_at r i) number) b

-- the word of what some position below n passes
abbrev word_below : ℕ → (ℕ → ℕ → Bool) → ℕ
word_below n t = word_of (λ (b : ℕ). some n (λ (i : ℕ). t i b))

word_more : (t : ℕ → ℕ → Bool) (i : ℕ) {acc x : ℕ} → acc ≡ word_below i t → x ≡ word_of (t i) → bit_or acc x ≡ word_below (i + 1) t
unfolding some
word_more t i e k = rw (e, k, add-one i) (word-or (λ (b : ℕ). some i (λ (j : ℕ). t j b)) (t i))

-- the words of the features below a position
pub record BitsBelow (r : Record) (enabled : List ℕ) (i : ℕ) (x : Bits) : Type 0 where
  pub capability : x.hwcap ≡ word_below i (capability_test r enabled)
  pub hypervisor : x.hfscr ≡ word_below i (support_test r enabled HvSupport HfscrBitNr)
  pub system : x.fscr ≡ word_below i (support_test r enabled OsSupport FscrBitNr)

pub bits-begin : (r : Record) (enabled : List ℕ) → BitsBelow r enabled 0 (record { hwcap = 0; hfscr = 0; fscr = 0 })
unfolding some
bits-begin r enabled = record {
  capability = word_none (λ (b : ℕ). false) (λ i l. refl);
  hypervisor = word_none (λ (b : ℕ). false) (λ i l. refl);
  system = word_none (λ (b : ℕ). false) (λ i l. refl);
}

pub bits-more : (r : Record) (enabled : List ℕ) (i : ℕ) {on : Bool} {x y z : Bits} → BitsBelow r enabled i x → on ≡ has enabled i
    → FeatureBits (feature_at r i) on y → z ≡ bits_of_both x y → BitsBelow r enabled (i + 1) z
unfolding bit_where
bits-more r enabled i {y = y} w e f q =
    let g = subst (λ (b : Bool). FeatureBits (feature_at r i) b y) e f in
    rw q
    (record {
      capability = word_more (capability_test r enabled) i w.capability g.hwcap;
      hypervisor = word_more (support_test r enabled HvSupport HfscrBitNr) i w.hypervisor g.hfscr;
      system = word_more (support_test r enabled OsSupport FscrBitNr) i w.system g.fscr;
    })

pub bits-all : (r : Record) (enabled : List ℕ) {i : ℕ} {x : Bits} → i ≡ r.count → BitsBelow r enabled i x → BitsOf r enabled x
unfolding capability_bit support_bit
bits-all r enabled e w = record {
  hwcap = w.capability ∙ ap (λ (n : ℕ). word_below n (capability_test r enabled)) e;
  hfscr = w.hypervisor ∙ ap (λ (n : ℕ). word_below n (support_test r enabled HvSupport HfscrBitNr)) e;
  fscr = w.system ∙ ap (λ (n : ℕ). word_below n (support_test r enabled OsSupport FscrBitNr)) e;
}

-- the words at a level
pub levelled-are : (x : Bits) (level : ℕ) (g : Grants) {hwcap hfscr fscr : ℕ} → hwcap ≡ below_level system level x.hwcap
    → hfscr ≡ below_level hypervisor level (bit_and x.hfscr g.hfscr) → fscr ≡ below_level system level (bit_and x.fscr g.fscr)
    → ◌≡◌ {A = WordValues} (record { first = hwcap % 2 ^ 32; second = hwcap / 2 ^ 32; hfscr = hfscr; fscr = fscr }) (levelled x level g)
unfolding levelled
levelled-are x level g e h f = rw (e, h, f)

pub values-are : (r : Record) (level : ℕ) (g : Grants) (enabled : List ℕ) {x : Bits} → BitsOf r enabled x → levelled x level g ≡ words_of r level g enabled
unfolding levelled words_of capability_word register_word
values-are r level g enabled b =
    let capability = word-below (capability_bit r enabled) system level b.hwcap refl in
    rw (capability, register HvSupport HfscrBitNr hypervisor g.hfscr b.hfscr refl, register OsSupport FscrBitNr system g.fscr b.fscr refl)
  where
    register : (support number : Property) (upper granted : ℕ) {w v : ℕ} → w ≡ word_of (support_bit r enabled support number)
        → v ≡ below_level upper level (bit_and w granted) → v ≡ register_word r level enabled upper support number granted
    register support number upper granted k q =
        word-below (λ (n : ℕ). bit granted n && support_bit r enabled support number n) upper level (word_and (support_bit r enabled support number) granted k) q
