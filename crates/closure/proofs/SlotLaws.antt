-- Laws of the slots of a position: whether they are members of a set. Assumes nothing.
use Prim.Native.Nat.{ℕ, ◌<◌}
use mathlib.Core.Path.{◌≡◌, refl, sym, ap, ap₂, ◌∙◌}
use mathlib.Core.Bool.{Bool, true, false, ◌&&◌}
use mathlib.Core.List.{List}
use native.Mathlib.Decide.{dec_lt}
use native.Mathlib.Omega.{arith}
use borrow.Author.Tests.{lt-ltb, ltb-true}
use lib.Dec.{ltb}
use lib.ListN.{length, get_or}
use Rattle.std.specs.Prelude.{◌↔◌, IsTrue, All}
use Rattle.std.proofs.lemmas.List.Elements.{All-get_or, All-from_get_or}
use Rattle.positions.specs.Below.{every}
use Rattle.positions.specs.Sets.{set_words, room, has, is_subset}
use Rattle.positions.proofs.BelowLaws.{no_way, and_left, and_right, every-at, every_of, every-same}
use Rattle.positions.proofs.SetLaws.{WordList, has-past}
use Rattle.positions.proofs.MemberLaws.{subset-at}
use Rattle.record.specs.Record.{most_features}
use Rattle.tables.specs.Slots.{slot_number, slot_of, own_slots}
use Rattle.tables.proofs.SlotLaws.{used_low, own-slot, length-own}
use Rattle.closure.specs.Parts.{is_member, all_members, slots_held, slots_in}

in_room : (s : List ℕ) (d : ℕ) → WordList set_words s → has s d ≡ true → d < room
in_room s d g e = go (dec_lt d room)
  where
    go : Dec (d < room) → d < room
    go (yes h) = h
    go (no h) = no_way (has s d) e (has-past s d (omega (arith, g.size)))

-- a test of all positions of a list
module _ (xs s : List ℕ) where
  abbrev test : ℕ → Bool
  test j = is_member s (get_or xs j 0)

  pub members-all : (b : Bool) → WordList set_words s → (IsTrue b ↔ All (λ d. has s d ≡ true) xs) → all_members xs s ≡ b
  unfolding all_members is_member
  members-all true g e =
      every_of (length xs) test (λ j l.
      let there = All-get_or (λ d. has s d ≡ true) xs j 0 l (e.0 refl) in
      ap₂ ◌&&◌ (lt-ltb (get_or xs j 0) room (in_room s _ g there)) there)
  members-all false g e = go (every (length xs) test) refl
    where
      go : (t : Bool) → every (length xs) test ≡ t → t ≡ false
      go false q = refl
      go true q =
          sym (e.1 (All-from_get_or (λ d. has s d ≡ true) xs 0 (λ j l.
          and_right (ltb (get_or xs j 0) room) (has s (get_or xs j 0)) (every-at (length xs) test q j l))))

-- the dependencies of a position, by its slots and how many are counted
module _ (slots counts : List ℕ) (i : ℕ) where
  -- as the slots that it uses
  pub slots-in : {xs : List ℕ} → i < most_features → xs ≡ own_slots slots counts i → (s : List ℕ) → all_members xs s ≡ slots_in slots counts i s
  unfolding all_members slots_in slots_held
  slots-in {xs} h e s =
      let size : length xs ≡ slot_number counts i = ap length e ∙ length-own slots counts i ∙ used_low counts i h in
      rw size
      (every-same (slot_number counts i) (λ j. is_member s (get_or xs j 0)) (λ j. is_member s (slot_of slots i j)) (λ j l.
      ap (is_member s) (ap (λ (l : List ℕ). get_or l j 0) e ∙ own-slot slots counts i j (omega (arith, used_low counts i h)))))

  pub slots-in-none : {xs : List ℕ} → i < most_features → xs ≡ own_slots slots counts i → length xs ≡ 0 → (s : List ℕ) → slots_in slots counts i s ≡ true
  unfolding slots_in slots_held every
  slots-in-none h e z s =
      let none : slot_number counts i ≡ 0 = omega (arith, ap length e, length-own slots counts i, used_low counts i h) in
      rw none refl

  pub slots_at : (s : List ℕ) → slots_in slots counts i s ≡ true → (j : ℕ) → j < slot_number counts i
      → (slot_of slots i j < room) × (has s (slot_of slots i j) ≡ true)
  unfolding slots_in slots_held is_member
  slots_at s e j h =
      let t = every-at (slot_number counts i) (λ j. is_member s (slot_of slots i j)) e j h in
      (ltb-true (slot_of slots i j) room (and_left (ltb (slot_of slots i j) room) (has s (slot_of slots i j)) t), and_right (ltb (slot_of slots i j) room) (has s (slot_of slots i j)) t)

  pub slots-of : (s : List ℕ) → ((j : ℕ) → j < slot_number counts i → (slot_of slots i j < room) × (has s (slot_of slots i j) ≡ true))
      → slots_in slots counts i s ≡ true
  unfolding slots_in slots_held is_member
  slots-of s f =
      every_of (slot_number counts i) (λ j. is_member s (slot_of slots i j)) (λ j h. ap₂ ◌&&◌ (lt-ltb (slot_of slots i j) room (f j h).0) (f j h).1)

  -- the members of a larger set
  pub slots-wider : (a b : List ℕ) → is_subset a b ≡ true → slots_in slots counts i a ≡ true → slots_in slots counts i b ≡ true
  slots-wider a b h e = slots-of b (λ j l. let t = slots_at a e j l in (t.0, subset-at a b h (slot_of slots i j) t.0 t.1))
