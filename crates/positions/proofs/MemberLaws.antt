-- Laws of a set's members: with one more, with one less, the common ones, subsets, counts. Assumes nothing.
use Prim.Native.Nat.{ℕ, zero, suc, ◌+◌, ◌-◌, ◌/◌, ◌%◌, ◌^◌, ◌≤◌, ◌<◌}
use mathlib.Core.Path.{◌≡◌, refl, sym, ap, ap₂, ◌∙◌}
use mathlib.Core.Bool.{Bool, true, false, not, ◌&&◌, ◌||◌}
use mathlib.Core.List.{List}
use native.Mathlib.Decide.{dec_lt}
use native.Mathlib.Omega.{arith}
use borrow.Author.Tests.{lt-ltb, le-ltb}
use lib.Bits.{bit_or, or_lt}
use lib.Dec.{eqb, ltb}
use lib.ListN.{get_or}
use lib.Pow.{pow-lt}
use Rattle.positions.specs.Below.{count}
use Rattle.positions.specs.Sets.{set_words, room, has, insert_at, collect, set_of, with_member, without_member, common, is_subset, member_count}
use Rattle.positions.proofs.BelowLaws.{no_way, every-at, every_of, count_same, count-eq, count_add}
use Rattle.positions.proofs.SetLaws.{WordList, has-insert, set-words, collect-words, collect-same, has-collect, set-ext}

-- the set of the positions that pass a test
pub has-set-of : (p : ℕ → Bool) (j : ℕ) → j < room → has (set_of p) j ≡ p j
unfolding set_of
has-set-of p j h = has-collect set_words room p (omega arith) j ∙ rw (lt-ltb j room h)

pub set-of-past : (p : ℕ → Bool) (j : ℕ) → room ≤ j → has (set_of p) j ≡ false
unfolding set_of
set-of-past p j h = has-collect set_words room p (omega arith) j ∙ rw (le-ltb j room h)

pub set-of-words : (p : ℕ → Bool) → WordList set_words (set_of p)
unfolding set_of
set-of-words p = collect-words set_words room p

pub set-of-is : (ws : List ℕ) (p : ℕ → Bool) → WordList set_words ws → ((j : ℕ) → j < room → has ws j ≡ p j) → ws ≡ set_of p
set-of-is ws p g f = set-ext ws (set_of p) g (set-of-words p) (λ j h. f j h ∙ sym (has-set-of p j h))

pub set-of-same : (p q : ℕ → Bool) → ((j : ℕ) → j < room → p j ≡ q j) → set_of p ≡ set_of q
unfolding set_of
set-of-same p q f = collect-same set_words room p q f

-- the members of a set with a position, of one without it, and of two sets
pub with-member : (ws : List ℕ) (i j : ℕ) → j < room → has (with_member ws i) j ≡ has ws j || eqb i j
unfolding with_member
with-member ws i j h = has-set-of (λ j. has ws j || eqb i j) j h

pub with-member-past : (ws : List ℕ) (i j : ℕ) → room ≤ j → has (with_member ws i) j ≡ false
unfolding with_member
with-member-past ws i j h = set-of-past (λ j. has ws j || eqb i j) j h

pub without-member : (ws : List ℕ) (i j : ℕ) → j < room → has (without_member ws i) j ≡ has ws j && not (eqb i j)
unfolding without_member
without-member ws i j h = has-set-of (λ j. has ws j && not (eqb i j)) j h

pub without-member-past : (ws : List ℕ) (i j : ℕ) → room ≤ j → has (without_member ws i) j ≡ false
unfolding without_member
without-member-past ws i j h = set-of-past (λ j. has ws j && not (eqb i j)) j h

pub common-member : (a b : List ℕ) (j : ℕ) → j < room → has (common a b) j ≡ has a j && has b j
unfolding common
common-member a b j h = has-set-of (λ j. has a j && has b j) j h

pub common-member-past : (a b : List ℕ) (j : ℕ) → room ≤ j → has (common a b) j ≡ false
unfolding common
common-member-past a b j h = set-of-past (λ j. has a j && has b j) j h

-- the bit set in its word
pub insert-at : (ws : List ℕ) (i : ℕ) → WordList set_words ws → i < room → insert_at ws i ≡ with_member ws i
unfolding with_member insert_at
insert-at ws i g h =
    set-of-is (insert_at ws i) (λ j. has ws j || eqb i j)
    (set-words ws (i / 64) (bit_or (get_or ws (i / 64) 0) (2 ^ (i % 64))) g
    (or_lt 64 (get_or ws (i / 64) 0) (2 ^ (i % 64)) (g.small (i / 64)) (pow-lt {j = 64} (omega arith))))
    (λ j _. has-insert ws i (omega (arith, g.size)) j)

-- a set built a position at a time
pub insert-collect : (m : ℕ) (p : ℕ → Bool) → m < room → p m ≡ true → with_member (collect set_words m p) m ≡ collect set_words (suc m) p
unfolding collect
insert-collect m p h e = sym (insert-at (collect set_words m p) m (collect-words set_words m p) h) ∙ rw e

-- subsets
implied : (a b : Bool) → not a || b ≡ true → a ≡ true → b ≡ true
implied true b g e = g
implied false b g e = no_way false e refl

implies : (a b : Bool) → (a ≡ true → b ≡ true) → not a || b ≡ true
implies true b g = g refl
implies false b g = refl

pub subset-at : (a b : List ℕ) → is_subset a b ≡ true → (i : ℕ) → i < room → has a i ≡ true → has b i ≡ true
unfolding is_subset
subset-at a b e i h = implied (has a i) (has b i) (every-at room (λ j. not (has a j) || has b j) e i h)

pub subset-of : (a b : List ℕ) → ((i : ℕ) → i < room → has a i ≡ true → has b i ≡ true) → is_subset a b ≡ true
unfolding is_subset
subset-of a b f = every_of room (λ j. not (has a j) || has b j) (λ i h. implies (has a i) (has b i) (f i h))

pub subset-same : (a : List ℕ) → is_subset a a ≡ true
subset-same a = subset-of a a (λ i h e. e)

pub subset-on : (a b c : List ℕ) → is_subset a b ≡ true → is_subset b c ≡ true → is_subset a c ≡ true
subset-on a b c p q = subset-of a c (λ i h e. subset-at b c q i h (subset-at a b p i h e))

-- a set that has not all the members of another that it is inside of has fewer
pub fewer-members : (a b : List ℕ) → is_subset a b ≡ true → is_subset b a ≡ false → member_count a < member_count b
unfolding member_count
fewer-members a b p q = go (dec_lt (count room (has a)) (count room (has b)))
  where
    go : Dec (count room (has a) < count room (has b)) → count room (has a) < count room (has b)
    go (yes h) = h
    go (no h) =
        no_way (is_subset b a) (subset-of b a (λ i l e. count-eq room (has a) (has b) (λ i l. subset-at a b p i l) (omega arith) i l ∙ e)) q

-- the number of members of a set built by a test
count_none : (n : ℕ) (p : ℕ → Bool) → ((i : ℕ) → p i ≡ false) → count n p ≡ 0
unfolding count
count_none zero p f = refl
count_none (suc n) p f = rw (count_none n p f, f n)

pub count-collect : (m : ℕ) (p : ℕ → Bool) → m ≤ room → member_count (collect set_words m p) ≡ count m p
unfolding member_count
count-collect m p h =
    let e : room ≡ m + (room - m) = omega arith in
    count_same room (has (collect set_words m p)) (λ i. ltb i m && p i) (λ i _. has-collect set_words m p h i)
    ∙ ap (λ (n : ℕ). count n (λ i. ltb i m && p i)) e
    ∙ count_add m (room - m) (λ i. ltb i m && p i)
    ∙ ap₂ (λ (x y : ℕ). x + y) (count_same m (λ i. ltb i m && p i) p (λ i l. rw (lt-ltb i m l)))
    (count_none (room - m) (λ i. ltb (m + i) m && p (m + i)) (λ i. rw (le-ltb (m + i) m (omega arith))))
    ∙ omega arith
