-- What A2 withdraws of document 01's test: that a feature with the user bit has a capability bit, and nothing else. Assumes nothing.
use Prim.Native.Nat.{ℕ, zero, suc}
use mathlib.Core.Path.{◌≡◌, refl, sym, ap, ◌∙◌}
use mathlib.Core.Bool.{Bool, true, false, not, ◌&&◌, ◌||◌}
use lib.Dec.{leb, ltb}
use Rattle.std.specs.Prelude.{Option, None, Some}
use Rattle.positions.specs.Below.{every}
use Rattle.record.specs.declared.Feature.{Feature}
use Rattle.record.specs.declared.Record.{Record}
use Rattle.record.specs.declared.Property.TheVariants.{UsablePrivilege, HwcapBitNr}
use Rattle.record.specs.Record.{most_features, most_dependencies, highest_hwcap_bit, feature_at, slot_at}
use Rattle.record.specs.Cells.{cell, low_bit, given_in, dependency_count}
use Rattle.form.specs.WellFormed.{bit_fits, bits_fit, slot_below, slots_fit, feature_fits, well_formed}
use Rattle.form.proofs.BitLaws.{hypervisor_fits, system_fits, capability_fits}

-- document 01's test: `hwcap-bit-nr` "required where bit 0 of `usable-privilege` is set"
abbrev capability_fitted : Feature → Bool
capability_fitted f = bit_fits highest_hwcap_bit (low_bit (cell f UsablePrivilege)) (cell f HwcapBitNr)

abbrev dependencies_fitted : Record → ℕ → Bool
dependencies_fitted r i =
    leb (dependency_count (feature_at r i)) most_dependencies
    && every (dependency_count (feature_at r i)) (λ (j : ℕ). ltb (slot_at r i j) r.count)

abbrev feature_fitted : Record → ℕ → Bool
feature_fitted r i =
    (hypervisor_fits (feature_at r i) && system_fits (feature_at r i) && capability_fitted (feature_at r i)) && dependencies_fitted r i

unfoldable pub well_formed_before : Record → Bool
well_formed_before r = leb r.count most_features && every r.count (feature_fitted r)

-- a feature with the user bit has a capability bit
abbrev pub has_capability : Record → ℕ → Bool
has_capability r i = not (low_bit (cell (feature_at r i) UsablePrivilege)) || given_in (cell (feature_at r i) HwcapBitNr)

-- laws of `&&`
and-swap : (a b : Bool) → a && b ≡ b && a
and-swap true true = refl
and-swap true false = refl
and-swap false true = refl
and-swap false false = refl

and-out : (a b g d : Bool) → (a && (b && g)) && d ≡ ((a && b) && d) && g
and-out true true g d = and-swap g d
and-out true false g d = refl
and-out false b g d = refl

and-pairs : (a b c d : Bool) → (a && b) && (c && d) ≡ (a && c) && (b && d)
and-pairs true b true d = refl
and-pairs true true false d = refl
and-pairs true false false d = refl
and-pairs false b c d = refl

every-both : (n : ℕ) (p q : ℕ → Bool) → every n (λ i. p i && q i) ≡ every n p && every n q
unfolding every
every-both zero p q = refl
every-both (suc n) p q = ap (λ (b : Bool). b && (p n && q n)) (every-both n p q) ∙ and-pairs (every n p) (every n q) (p n) (q n)

-- a number that fits where it is required: it fits, and is given
required-split : (highest : ℕ) (required : Bool) (c : Option ℕ) → bit_fits highest required c ≡ bit_fits highest false c && (not required || given_in c)
required-split highest true None = refl
required-split highest false None = refl
required-split highest true (Some n) = and-swap true (leb n highest)
required-split highest false (Some n) = and-swap true (leb n highest)

module _ (r : Record) where
  feature-before : (i : ℕ) → feature_fitted r i ≡ feature_fits r i && has_capability r i
  unfolding bits_fit slot_below slots_fit
  feature-before i =
      let f = feature_at r i in
      ap (λ (b : Bool). (hypervisor_fits f && system_fits f && b) && dependencies_fitted r i)
      (required-split highest_hwcap_bit (low_bit (cell f UsablePrivilege)) (cell f HwcapBitNr))
      ∙ and-out (hypervisor_fits f && system_fits f) (capability_fits f) (has_capability r i) (dependencies_fitted r i)

  -- well formed before: well formed, and no capability bit missing
  pub form-before : well_formed_before r ≡ well_formed r && every r.count (has_capability r)
  unfolding well_formed_before well_formed
  form-before =
      (λ k. leb r.count most_features && every r.count (λ (i : ℕ). feature-before i k))
      ∙ ap (λ (b : Bool). leb r.count most_features && b) (every-both r.count (feature_fits r) (has_capability r))
      ∙ sym (and_assoc (leb r.count most_features) (every r.count (feature_fits r)) (every r.count (has_capability r)))
    where
      and_assoc : (a b c : Bool) → (a && b) && c ≡ a && (b && c)
      and_assoc true b c = refl
      and_assoc false b c = refl
