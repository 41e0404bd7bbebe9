-- Laws of the slots of a position: how many it uses, which, and the set of them. Assumes nothing.
use Prim.Native.Nat.{ℕ, ◌+◌, ◌-◌, ◌*◌, ◌≤◌, ◌<◌, min}
use mathlib.Core.Path.{◌≡◌, refl, sym, ap, ◌∙◌}
use mathlib.Core.Bool.{Bool, ◌||◌}
use mathlib.Core.List.{List}
use native.Mathlib.Decide.{dec_lt}
use native.Mathlib.Numerals.{add-one}
use borrow.Author.Tests.{lt-ltb, le-ltb}
use lib.Dec.{eqb}
use lib.ListN.{length, get_or, length-take, length-drop}
use lib.Seq.{ext_get_or}
use native.Mathlib.Omega.{arith}
use Rattle.std.specs.List.{slice_range}
use Rattle.std.proofs.lemmas.List.{get_or-take, get_or-drop}
use Rattle.cells.proofs.Rows.{length-each, row-at}
use Rattle.positions.specs.Below.{some}
use Rattle.positions.specs.Sets.{set_of, no_members, with_member}
use Rattle.positions.proofs.MemberLaws.{has-set-of, set-of-same}
use Rattle.record.specs.Record.{most_features, most_dependencies}
use Rattle.tables.specs.Slots.{slot_number, slot_of, used_slots, own_slots}
use Rattle.tables.specs.Parts.{slot_set}

-- the slots that a position uses
pub used_low : (counts : List ℕ) (i : ℕ) → i < most_features → used_slots counts i ≡ slot_number counts i
unfolding used_slots
used_low counts i h = rw (lt-ltb i most_features h)

used_past : (counts : List ℕ) (i : ℕ) → most_features ≤ i → used_slots counts i ≡ 0
unfolding used_slots
used_past counts i h = rw (le-ltb i most_features h)

-- they lie among the slots; a position that uses one is one of 64
pub used-inside : (counts : List ℕ) (i : ℕ) → most_dependencies * min i most_features + used_slots counts i ≤ most_dependencies * most_features
used-inside counts i = go (dec_lt i most_features)
  where
    go : Dec (i < most_features) → most_dependencies * min i most_features + used_slots counts i ≤ most_dependencies * most_features
    go (yes h) = omega (arith, used_low counts i h)
    go (no h) = omega (arith, used_past counts i (omega arith))

own_low : (counts : List ℕ) (i : ℕ) {j : ℕ} → j < used_slots counts i → i < most_features
own_low counts i h = go (dec_lt i most_features)
  where
    go : Dec (i < most_features) → i < most_features
    go (yes l) = l
    go (no l) = absurd (omega (arith, used_past counts i (omega arith)))

-- the slots that a position uses, one after the other, and as a part of all
module _ (slots counts : List ℕ) (i : ℕ) where
  pub length-own : length (own_slots slots counts i) ≡ used_slots counts i
  unfolding own_slots
  length-own = length-each (used_slots counts i) (slot_of slots i)

  pub own-slot : (j : ℕ) → j < used_slots counts i → get_or (own_slots slots counts i) j 0 ≡ slot_of slots i j
  unfolding own_slots
  own-slot j h = row-at (used_slots counts i) (slot_of slots i) j 0 h

  part-slot : (f m j : ℕ) → j < m → get_or (slice_range slots (most_dependencies * f) (most_dependencies * f + m)) j 0 ≡ slot_of slots f j
  part-slot f m j h =
      get_or-take (most_dependencies * f + m - most_dependencies * f) _ j 0 (omega arith) ∙ get_or-drop (most_dependencies * f) slots j 0

  pub own-part : {f m : ℕ} → length slots ≡ most_dependencies * most_features → f ≡ min i most_features → m ≡ used_slots counts i
      → slice_range slots (most_dependencies * f) (most_dependencies * f + m) ≡ own_slots slots counts i
  own-part {f} {m} full e q = ext_get_or 0 _ _ (omega (arith, size, length-own)) (λ j h. at j (omega (arith, size)))
    where
      size : length (slice_range slots (most_dependencies * f) (most_dependencies * f + m)) ≡ m
      size = simp (length-take, length-drop) (omega (arith, used-inside counts i))

      at : (j : ℕ) → j < m → get_or (slice_range slots (most_dependencies * f) (most_dependencies * f + m)) j 0 ≡ get_or (own_slots slots counts i) j 0
      at j h =
          let own : j < used_slots counts i = omega arith in
          let k : f ≡ i = omega (arith, own_low counts i own) in
          part-slot f m j h ∙ ap (λ (x : ℕ). slot_of slots x j) k ∙ sym (own-slot j own)

-- the set of the slots read
pub slots-none : (slots : List ℕ) (i : ℕ) → set_of no_members ≡ slot_set slots i 0
unfolding no_members slot_set some
slots-none slots i = refl

some_more : (n : ℕ) (p : ℕ → Bool) → some n p || p n ≡ some (n + 1) p
unfolding some
some_more n p = rw (add-one n)

pub slots-more : (slots : List ℕ) (i j : ℕ) {s : List ℕ} → s ≡ slot_set slots i j
    → with_member s (get_or slots (most_dependencies * i + j) 0) ≡ slot_set slots i (j + 1)
unfolding slot_set with_member
slots-more slots i j e =
    let slot : ℕ → ℕ → Bool = λ t j. eqb (get_or slots (most_dependencies * i + j) 0) t in
    rw e (set-of-same _ _ (λ t h. ap (λ (b : Bool). b || slot t j) (has-set-of (λ t. some j (slot t)) t h) ∙ some_more j (slot t)))
