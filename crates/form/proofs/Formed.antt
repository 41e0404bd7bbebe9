-- The test of well-formedness holds exactly of the records that are well formed, and of the record of no features. Assumes nothing.
use Prim.Native.Nat.{ℕ}
use mathlib.Core.Path.{◌≡◌, refl}
use mathlib.Core.Bool.{Bool, true, false}
use native.Mathlib.Omega.{arith}
use borrow.Author.Tests.{leb-true, ltb-true, le-leb, lt-ltb}
use lib.Dec.{leb}
use Rattle.std.specs.Prelude.{Option, None, Some}
use Rattle.positions.specs.Below.{every}
use Rattle.positions.proofs.BelowLaws.{and_left, and_right, no_way, every-at, every_of}
use Rattle.record.specs.Record.{most_features, most_dependencies, no_features, feature_at, slot_at}
use Rattle.record.specs.Cells.{dependency_count}
use Rattle.form.specs.Formed.{InRange, FeatureFormed, Formed}
use Rattle.form.specs.WellFormed.{bit_fits, bits_fit, slot_below, slots_fit, feature_fits, well_formed}
use Rattle.form.proofs.BitLaws.{fits-hypervisor, fits-system, fits-capability}
use Rattle.record.specs.declared.Feature.{Feature}
use Rattle.record.specs.declared.Record.{Record}

-- a bit number that fits is in range, and given where it is required; and the reverse
in-range : (highest : ℕ) (required : Bool) (c : Option ℕ) → bit_fits highest required c ≡ true → InRange highest c
in-range highest required None e n h = let z : ◌≡◌ {A = ℕ} 0 1 = cc in absurd (omega arith)
in-range highest required (Some m) e n h = let same : m ≡ n = cc in omega (arith, leb-true m highest e)

is-given : (highest : ℕ) (required : Bool) (c : Option ℕ) → bit_fits highest required c ≡ true → required ≡ true → (n : ℕ) × (c ≡ Some n)
is-given highest required None e h = no_way false (rw h at e) refl
is-given highest required (Some m) e h = (m, refl)

bit-passes : (highest : ℕ) (required : Bool) (c : Option ℕ) → InRange highest c → (required ≡ true → (n : ℕ) × (c ≡ Some n)) → bit_fits highest required c ≡ true
bit-passes highest true None low there = let given = there refl in let z : ◌≡◌ {A = ℕ} 0 1 = cc given.1 in absurd (omega arith)
bit-passes highest false None low there = refl
bit-passes highest required (Some n) low there = le-leb n highest (low n refl)

module _ (r : Record) (i : ℕ) where
  abbrev feature : Feature
  feature = feature_at r i

  abbrev number : ℕ
  number = dependency_count feature

  abbrev below : ℕ → Bool
  below = slot_below r.slots r.count i

  feature-formed : feature_fits r i ≡ true → FeatureFormed r i
  unfolding slot_below slots_fit
  feature-formed e =
      let bits = and_left (bits_fit feature) _ e in
      let hv = fits-hypervisor feature bits in
      let os = fits-system feature bits in
      let slots = and_right (bits_fit feature) _ e in
      record {
        hfscr = in-range _ _ _ hv;
        fscr = in-range _ _ _ os;
        hwcap = in-range _ false _ (fits-capability feature bits);
        hfscr_given = is-given _ _ _ hv;
        fscr_given = is-given _ _ _ os;
        few = leb-true number most_dependencies (and_left (leb number most_dependencies) (every number below) slots);
        below = λ j h. ltb-true (slot_at r i j) r.count (every-at number below (and_right (leb number most_dependencies) (every number below) slots) j h);
      }

  feature-passes : FeatureFormed r i → feature_fits r i ≡ true
  unfolding bits_fit slot_below slots_fit
  feature-passes f =
      rw (
        bit-passes _ _ _ f.hfscr f.hfscr_given,
        bit-passes _ _ _ f.fscr f.fscr_given,
        bit-passes _ false _ f.hwcap (λ h. no_way false h refl),
        le-leb number most_dependencies f.few,
        every_of number below (λ j h. lt-ltb (slot_at r i j) r.count (f.below j h)),
      )

pub formed : (r : Record) → well_formed r ≡ true → Formed r
unfolding well_formed
formed r e =
    let all = and_right (leb r.count most_features) (every r.count (feature_fits r)) e in
    record {
      few = leb-true r.count most_features (and_left (leb r.count most_features) (every r.count (feature_fits r)) e);
      each = λ i h. feature-formed r i (every-at r.count (feature_fits r) all i h);
    }

pub formed-passes : (r : Record) → Formed r → well_formed r ≡ true
unfolding well_formed
formed-passes r f = rw (le-leb r.count most_features f.few) (every_of r.count (feature_fits r) (λ i h. feature-passes r i (f.each i h)))

-- the record of a refused read passes
pub no-features-formed : well_formed no_features ≡ true
unfolding well_formed no_features every
no-features-formed = refl
