-- Laws of well-formedness, one for each return of the code. Assumes nothing.
use Prim.Native.Nat.{ℕ, ◌+◌, ◌-◌, ◌*◌, ◌≤◌, ◌<◌}
use mathlib.Core.Path.{◌≡◌, refl, sym, ap, ap₂, ◌∙◌}
use mathlib.Core.Bool.{Bool, true, false, ◌&&◌}
use mathlib.Core.List.{List}
use native.Mathlib.Omega.{arith}
use borrow.Author.Tests.{le-leb, lt-leb, lt-ltb, leb-true, ltb-true}
use lib.Dec.{leb, ltb}
use lib.ListN.{length, get_or, take, length-take, length-drop}
use Rattle.std.proofs.lemmas.List.{get_or-take, get_or-drop}
use Rattle.std.proofs.lemmas.List.Elements.{All-get_or, All-from_get_or}
use Rattle.std.specs.Prelude.{◌↔◌, IsTrue, All}
use Rattle.std.specs.List.{slice_range}
use Rattle.positions.specs.Below.{every}
use Rattle.positions.proofs.BelowLaws.{and_left, and_right, and-false, every-not, every_more, every_of, every-at}
use Rattle.record.specs.Record.{most_features, most_dependencies, no_feature, feature_at}
use Rattle.record.specs.Cells.{dependency_count}
use Rattle.form.specs.WellFormed.{bits_fit, slot_below, slots_fit, fits_in, feature_fits, well_formed}
use Rattle.form.specs.Slots.{fits_at, SlotsUpTo}
use Rattle.record.specs.declared.Feature.{Feature}
use Rattle.record.specs.declared.Record.{Record}

-- the slots of a position, one after the other
module _ (slots : List ℕ) (count i : ℕ) where
  -- the first n of them
  abbrev pub own_slots : ℕ → List ℕ
  own_slots n = slice_range slots (most_dependencies * i) (most_dependencies * i + n)

  pub own-slot : (n j : ℕ) → j < n → get_or (own_slots n) j 0 ≡ get_or slots (most_dependencies * i + j) 0
  own-slot n j h =
      get_or-take (most_dependencies * i + n - most_dependencies * i) _ j 0 (omega arith) ∙ get_or-drop (most_dependencies * i) slots j 0

  pub length-own : (n : ℕ) → most_dependencies * i + n ≤ length slots → length (own_slots n) ≡ n
  length-own n h = simp (length-take, length-drop) (omega arith)

  pub below_all : (n : ℕ) (b : Bool) → most_dependencies * i + n ≤ length slots → (IsTrue b ↔ All (λ x. x < count) (own_slots n)) → b ≡ every n (slot_below slots count i)
  unfolding slot_below
  below_all n true h e =
      sym (every_of n (slot_below slots count i) (λ j l.
      let below = All-get_or (λ x. x < count) (own_slots n) j 0 (omega (arith, length-own n h)) (e.0 refl) in
      lt-ltb (get_or slots (most_dependencies * i + j) 0) count (omega (arith, own-slot n j l))))
  below_all n false h e = go (every n (slot_below slots count i)) refl
    where
      go : (t : Bool) → every n (slot_below slots count i) ≡ t → false ≡ t
      go false q = refl
      go true q =
          e.1 (All-from_get_or (λ x. x < count) (own_slots n) 0 (λ j l.
          let k : j < n = omega (arith, length-own n h) in
          omega (arith, own-slot n j k, ltb-true _ _ (every-at n (slot_below slots count i) q j k))))

  -- the dependencies, one by one; the largest first
  slots-each : (n : ℕ) {b : Bool} → n ≤ most_dependencies → b ≡ every n (slot_below slots count i) → b ≡ slots_fit slots count i n
  unfolding slots_fit
  slots-each n h e = rw (le-leb n most_dependencies h) e

  pub slots-largest : (n : ℕ) {most : ℕ} → n ≤ most_dependencies → SlotsUpTo slots i most → most < count → true ≡ slots_fit slots count i n
  unfolding slot_below
  slots-largest n h up l =
      slots-each n h (sym (every_of n (slot_below slots count i)
      (λ j k. let u = up j (omega arith) in lt-ltb (get_or slots (most_dependencies * i + j) 0) count (omega arith))))

  -- a feature
  module _ (f : Feature) where
    -- what a feature that fits tells
    module _ {b : Bool} (e : b ≡ fits_at f slots count i) (q : b ≡ true) where
      both : bits_fit f && slots_fit slots count i (dependency_count f) ≡ true
      unfolding fits_at
      both = and_right (ltb i most_features) _ (sym e ∙ q)

      pub fits_bits : bits_fit f ≡ true
      fits_bits = and_left (bits_fit f) _ both

      pub fits-few : dependency_count f ≤ most_dependencies
      unfolding slots_fit
      fits-few =
          leb-true (dependency_count f) most_dependencies
          (and_left (leb (dependency_count f) most_dependencies) _ (and_right (bits_fit f) _ both))

module _ (r : Record) where
  -- a feature of the record fits at its position
  pub fits-feature : (i : ℕ) → i < most_features → fits_at (feature_at r i) r.slots r.count i ≡ feature_fits r i
  unfolding fits_at
  fits-feature i h = rw (lt-ltb i most_features h)

  pub formed-many : most_features < r.count → false ≡ well_formed r
  unfolding well_formed
  formed-many h = rw (lt-leb r.count most_features h)

  -- the feature at i, among the first k
  pub fits-at : (i : ℕ) {k : ℕ} {b : Bool} → i < k → b ≡ fits_in (get_or (take k r.features) i no_feature) r.slots r.count i → feature_fits r i ≡ b
  fits-at i {k} h e = sym (e ∙ ap (λ (f : Feature). fits_in f r.slots r.count i) (get_or-take k r.features i no_feature h))

  pub formed-fail : (i : ℕ) → i < r.count → feature_fits r i ≡ false → false ≡ well_formed r
  unfolding well_formed
  formed-fail i h e =
      sym (ap (λ (b : Bool). leb r.count most_features && b) (every-not r.count (feature_fits r) i h e) ∙ and-false (leb r.count most_features))

  -- by the test of one feature
  pub formed-not : (i : ℕ) {b : Bool} → i < r.count → i < most_features → b ≡ fits_at (feature_at r i) r.slots r.count i → b ≡ false → false ≡ well_formed r
  formed-not i h l e q = formed-fail i h (sym (fits-feature i l) ∙ sym e ∙ q)

  pub formed-next : (i : ℕ) {b : Bool} → every i (feature_fits r) ≡ true → i < most_features → b ≡ fits_at (feature_at r i) r.slots r.count i → b ≡ true
      → every (i + 1) (feature_fits r) ≡ true
  formed-next i all l e q = every_more i (feature_fits r) all (sym (fits-feature i l) ∙ sym e ∙ q)

  pub formed-all : {i : ℕ} → i ≡ r.count → r.count ≤ most_features → every i (feature_fits r) ≡ true → true ≡ well_formed r
  unfolding well_formed
  formed-all e h all = sym (ap₂ ◌&&◌ (le-leb r.count most_features h) (sym (ap (λ (m : ℕ). every m (feature_fits r)) e) ∙ all))
