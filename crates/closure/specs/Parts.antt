-- What the functions behind the public ones promise.
use Rattle.std.specs.Prelude.{ℕ, ◌<◌, ◌≡◌, Bool, true, false, ◌&&◌, ◌⊎◌, List, ltb, length, get_or, Option, None, Some}
use Rattle.positions.specs.Below.{every}
use Rattle.positions.specs.Sets.{room, has, with_member, without_member, is_subset}
use Rattle.tables.specs.Slots.{slot_number, slot_of}
use Rattle.closure.specs.declared.Left.{Left}

-- a position is a member of a set; none past its last word is
unfoldable pub is_member : List ℕ → ℕ → Bool
is_member s i = ltb i room && has s i

-- the positions of a list are all members of a set
unfoldable pub all_members : List ℕ → List ℕ → Bool
all_members xs s = every (length xs) (λ (j : ℕ). is_member s (get_or xs j 0))

-- the first m slots of position i are all members of a set
unfoldable pub slots_held : List ℕ → ℕ → ℕ → List ℕ → Bool
slots_held slots i m s = every m (λ (j : ℕ). is_member s (slot_of slots i j))

-- the dependencies of position i are all members of a set
unfoldable pub slots_in : List ℕ → List ℕ → ℕ → List ℕ → Bool
slots_in slots counts i s = slots_held slots i (slot_number counts i) s

-- position i is tested: it is taken out, or noted, where its dependencies are members
abbrev pub left_of : Bool → List ℕ → ℕ → List ℕ
left_of true s i = s
left_of false s i = without_member s i

abbrev pub noted_of : Bool → List ℕ → ℕ → List ℕ
noted_of true s i = with_member s i
noted_of false s i = s

pub record Tested (held : Bool) (i : ℕ) (x r : Left) : Type 0 where
  pub members : r.members.words ≡ left_of held x.members.words i
  pub needy : r.needy.words ≡ noted_of held x.needy.words i

-- where it is a member and has dependencies, m of them
pub record TestedMember (held : Bool) (i m : ℕ) (x r : Left) : Type 0 where
  pub same : (m ≡ 0) ⊎ (has x.members.words i ≡ false) → r ≡ x
  pub tested : (m ≡ 0 → ⊥) → has x.members.words i ≡ true → Tested held i x r

-- members are taken out of a set, none of them one of a closed part of it; `held i s` says that the dependencies of i are members of s
abbrev pub ClosedSet : (ℕ → List ℕ → Bool) → ℕ → List ℕ → Type 0
ClosedSet held n s = (i : ℕ) → i < n → has s i ≡ true → held i s ≡ true

pub record TakesOut (held : ℕ → List ℕ → Bool) (n : ℕ) (old new : List ℕ) : Type 0 where
  pub fewer : is_subset new old ≡ true
  pub keeps : (s : List ℕ) → ClosedSet held n s → is_subset s old ≡ true → is_subset s new ≡ true

-- each of n members has no dependencies or is noted, and none else is
pub record Needy (held : ℕ → List ℕ → Bool) (n : ℕ) (members needy : List ℕ) : Type 0 where
  pub low : (i : ℕ) → i < room → has needy i ≡ true → i < n
  pub idle : (i : ℕ) → i < n → has members i ≡ true → has needy i ≡ false → (s : List ℕ) → held i s ≡ true

-- a pass over n positions: where it takes none out, the set is closed
pub record Passes (held : ℕ → List ℕ → Bool) (n : ℕ) (old : List ℕ) (r : Left) : Type 0 where
  pub out : TakesOut held n old r.members.words
  pub done : is_subset old r.members.words ≡ true → ClosedSet held n old
  pub needy : Needy held n r.members.words r.needy.words

-- a member of a set; none, where it has none
unfoldable pub Picks : List ℕ → Option ℕ → Type 0
Picks s (Some i) = (i < room) × (has s i ≡ true)
Picks s None = (i : ℕ) → i < room → has s i ≡ false
