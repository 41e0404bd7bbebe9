-- The capability words are exactly the bits of the enabled features that have one. Assumes nothing.
use Rattle.std.specs.Prelude.{Option, None, Some}
use Prim.Native.Nat.{ℕ, ◌+◌, ◌^◌, ◌≤◌, ◌<◌}
use mathlib.Core.Path.{◌≡◌, refl, sym, ap, subst, ◌∙◌}
use mathlib.Core.Bool.{Bool, true, false, ◌&&◌}
use mathlib.Core.List.{List}
use mathlib.Core.Logic.{◌↔◌}
use native.Mathlib.Omega.{arith}
use borrow.Author.Tests.{ltb-true, lt-ltb, eqb-true, eq-eqb}
use lib.Dec.{ltb}
use Rattle.refusal.specs.Refusal.{Outcome, answer}
use Rattle.positions.specs.Bits.{bit}
use Rattle.positions.specs.Below.{some}
use Rattle.positions.specs.Sets.{has}
use Rattle.positions.proofs.BelowLaws.{and_left, and_right, no_way, some_at, some_is}
use Rattle.positions.proofs.BitLaws.{bit-low, bit_high}
use Rattle.record.specs.declared.Record.{Record}
use Rattle.record.specs.declared.Property.TheVariants.{HwcapBitNr}
use Rattle.record.specs.Record.{feature_at}
use Rattle.record.specs.Cells.{cell}
use Rattle.form.specs.WellFormed.{well_formed}
use Rattle.permitted.specs.declared.Grants.{Grants}
use Rattle.permitted.specs.Permitted.{system, hypervisor, permitted_set}
use Rattle.permitted.proofs.AskedLaws.{all-good, asked-answered}
use Rattle.enabled.specs.Answers.{enabled_set}
use Rattle.words.specs.Words.{WordValues, no_words, is_number, capability_bit, capability_word, words_of, words}
use Rattle.words.specs.Capability.{SetsBit, CapabilityWords}
use Rattle.words.proofs.WordLaws.{bit_word, word_small}

-- a cell that is given as a number
is-number : (c : Option ℕ) (b : ℕ) → is_number c b ≡ true → c ≡ Some b
is-number None b e = no_way false e refl
is-number (Some n) b e = ap Some (eqb-true n b e)

number_is : (c : Option ℕ) (b : ℕ) → c ≡ Some b → is_number c b ≡ true
number_is c b e = rw e (eq-eqb b b refl)

module _ (r : Record) (level : ℕ) (enabled : List ℕ) (b : ℕ) where
  abbrev has_it : ℕ → Bool
  has_it i = has enabled i && is_number (cell (feature_at r i) HwcapBitNr) b

  passes-sets : ltb level system && capability_bit r enabled b ≡ true → SetsBit r level enabled b
  unfolding capability_bit
  passes-sets e =
      let found = some_is r.count has_it (and_right (ltb level system) (some r.count has_it) e) in
      let i = found.0 in
      record {
        at_user = ltb-true level system (and_left (ltb level system) (some r.count has_it) e);
        position = i;
        feature = found.1;
        on = and_left (has enabled i) _ found.2;
        number = is-number (cell (feature_at r i) HwcapBitNr) b (and_right (has enabled i) _ found.2);
      }

  sets-passes : SetsBit r level enabled b → ltb level system && capability_bit r enabled b ≡ true
  unfolding capability_bit
  sets-passes s =
      let here : has_it s.position ≡ true = rw s.on (number_is (cell (feature_at r s.position) HwcapBitNr) b s.number) in
      rw (lt-ltb level system s.at_user) (some_at r.count has_it s.position s.feature here)

  -- by the bit of a word that is bit b of the two
  exactly : {x : Bool} → b < 64 → x ≡ bit (capability_word r level enabled) b → x ≡ true ↔ SetsBit r level enabled b
  unfolding capability_word
  exactly l e =
      let same = e ∙ bit_word (λ (n : ℕ). ltb level system && capability_bit r enabled n) b l in
      (λ t. passes-sets (sym same ∙ t), λ s. same ∙ sets-passes s)

pub capability-words : (r : Record) → well_formed r ≡ true → (level : ℕ) → level ≤ hypervisor → (g : Grants)
    → CapabilityWords (words r level g) r level g
unfolding words words_of capability_word
capability-words r good level known g =
    let enabled = enabled_set r (permitted_set r level g) in
    let word = capability_word r level enabled in
    let told : words r level g ≡ answer (words_of r level g enabled) =
    sym (asked-answered r level no_words (words_of r level g enabled) (all-good r level good known) refl) in
    let small : word < 2 ^ 64 = word_small (λ (n : ℕ). ltb level system && capability_bit r enabled n) in
    subst (λ (o : Outcome WordValues). CapabilityWords o r level g) (sym told)
    (record {
      answered = refl;
      first = λ b l. exactly r level enabled b (omega arith) (bit-low word 32 b l);
      second = λ b l. exactly r level enabled (32 + b) (omega arith) (bit_high word 32 b);
      first_bits = omega arith;
      second_bits = omega arith;
    })
