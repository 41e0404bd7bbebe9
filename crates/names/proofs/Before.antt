-- Of a string of 32 to 63 characters apart, a property name is read as it was before A13, when the most was 31. Assumes nothing.
use mathlib.Core.Path.{◌≡◌, refl, sym, ◌∙◌}
use mathlib.Core.Bool.{Bool, false}
use mathlib.Core.List.{List}
use Prim.Native.Nat.{ℕ, ◌<◌, ◌≤◌}
use native.Mathlib.Omega.{arith}
use native.Mathlib.Decide.{dec_lt}
use borrow.Author.Tests.{le-leb, lt-leb}
use lib.Dec.{leb}
use lib.ListN.{length}
use Rattle.refusal.specs.Refusal.{Outcome}
use Rattle.characters.specs.Characters.{is_property_character}
use Rattle.strings.specs.Strings.{Text, ended, unended, text_at}
use Rattle.names.specs.Names.{most_property_name, both, every, length_within, is_property_name, read_name, property_name_at}

abbrev most_before : ℕ
most_before = 31

abbrev pub is_property_name_before : Text → Bool
is_property_name_before (ended cs) = both (length_within most_before cs) (every is_property_character cs)
is_property_name_before unended = false

abbrev pub property_name_before : List ℕ → ℕ → ℕ → Outcome ℕ
property_name_before s from end = read_name is_property_name_before (text_at s from end)

same-most : (n : ℕ) → (most_before < n → n ≤ most_property_name → ⊥) → leb n most_property_name ≡ leb n most_before
same-most n h = go (dec_lt most_before n) (dec_lt most_property_name n)
  where
    go : Dec (most_before < n) → Dec (most_property_name < n) → leb n most_property_name ≡ leb n most_before
    go (no l) k = le-leb n most_property_name (omega arith) ∙ sym (le-leb n most_before (omega arith))
    go (yes l) (yes k) = lt-leb n most_property_name k ∙ sym (lt-leb n most_before l)
    go (yes l) (no k) = absurd (h l (omega arith))

pub as_before : (s : List ℕ) (from end : ℕ) → ((cs : List ℕ) → text_at s from end ≡ ended cs → most_before < length cs → length cs ≤ most_property_name → ⊥)
    → property_name_at s from end ≡ property_name_before s from end
unfolding property_name_at is_property_name
as_before s from end = go (text_at s from end)
  where
    go : (t : Text) → ((cs : List ℕ) → t ≡ ended cs → most_before < length cs → length cs ≤ most_property_name → ⊥) → read_name is_property_name t ≡ read_name is_property_name_before t
    go unended h = refl
    go (ended cs) h = rw (same-most (length cs) (h cs refl))
