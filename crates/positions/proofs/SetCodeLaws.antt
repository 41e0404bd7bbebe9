-- Laws of sets of positions as the code computes them, a word at a time. Assumes nothing.
use Prim.Native.Nat.{ℕ, ◌+◌, ◌-◌, ◌*◌, ◌/◌, ◌%◌, ◌^◌, ◌≤◌, ◌<◌}
use mathlib.Core.Path.{◌≡◌, refl, sym, ap, ◌∙◌}
use mathlib.Core.Bool.{Bool, true, false, not, ◌&&◌, ◌||◌, cond}
use mathlib.Core.List.{List}
use native.Mathlib.Nat.{lt_of_le_of_lt}
use native.Mathlib.Omega.{arith}
use borrow.Author.Tests.{ne_eqb, le-ltb}
use lib.Bits.{bit_and, bit_or, and_le_l}
use lib.Dec.{eqb}
use lib.ListN.{length, get_or, set, replicate}
use lib.Pow.{pow-lt, shl_exact}
use mir.Syntax.{w64}
use mir.Val.{Fits}
use Rattle.positions.specs.Bits.{bit}
use Rattle.positions.specs.Sets.{set_words, has, insert_at, collect, set_of, no_members, with_member, without_member, is_subset}
use Rattle.positions.proofs.BelowLaws.{and_right}
use Rattle.positions.proofs.BitLaws.{bit-and, bit-pow, bit_not, bit-ext, bit_test}
use Rattle.positions.proofs.SetLaws.{WordList, or-false, has-at, has-past, has-word-set, set-words, collect-words, has-collect}
use Rattle.positions.proofs.MemberLaws.{set-of-is, insert-at, subset-at, subset-of}

-- an array of words, as owning it tells
pub word-list : {W : ℕ} (ws : List ℕ) → length ws ≡ W → ((v : ℕ) → Fits w64 (get_or ws v 0)) → WordList W ws
word-list ws e f = record { size = e; small = λ v. (f v).fits }

pub zero-words : replicate set_words 0 ≡ set_of no_members
unfolding collect no_members
zero-words =
    set-of-is (replicate set_words 0) no_members (collect-words set_words 0 no_members)
    (λ j _. has-collect set_words 0 no_members (omega arith) j ∙ rw (le-ltb j 0 (omega arith)))

pub has_word : (ws : List ℕ) (i : ℕ) → not (eqb (get_or ws (i / 64) 0 / 2 ^ (i % 64) % 2) 0) ≡ has ws i
unfolding has
has_word ws i = bit_test (get_or ws (i / 64) 0) (i % 64)

pub past_words : {W : ℕ} (ws : List ℕ) (i : ℕ) → WordList W ws → W ≤ i / 64 → false ≡ has ws i
past_words ws i g h = sym (has-past ws i (omega (arith, g.size)))

-- one shifted
pub shift_one : (s : ℕ) → s < 64 → 1 * 2 ^ s % 2 ^ 64 ≡ 2 ^ s
shift_one s h = shl_exact 1 s 64 (omega arith) (omega arith) ∙ omega arith

-- a position past the last word changes nothing
pub with-past : (ws : List ℕ) (i : ℕ) → WordList set_words ws → set_words ≤ i / 64 → ws ≡ with_member ws i
unfolding with_member
with-past ws i g h = set-of-is ws (λ j. has ws j || eqb i j) g (λ j l. rw (ne_eqb i j (λ e. omega arith)) (sym (or-false (has ws j))))

pub without-past : (ws : List ℕ) (i : ℕ) → WordList set_words ws → set_words ≤ i / 64 → ws ≡ without_member ws i
unfolding without_member
without-past ws i g h = set-of-is ws (λ j. has ws j && not (eqb i j)) g (λ j l. rw (ne_eqb i j (λ e. omega arith)) (sym (and-true (has ws j))))
  where
    and-true : (a : Bool) → a && true ≡ a
    and-true true = refl
    and-true false = refl

pub with-bit : (ws : List ℕ) (i : ℕ) → WordList set_words ws → i / 64 < set_words
    → set ws (i / 64) (bit_or (get_or ws (i / 64) 0) (1 * 2 ^ (i % 64) % 2 ^ 64)) ≡ with_member ws i
unfolding insert_at
with-bit ws i g h = rw (shift_one (i % 64) (omega arith)) (insert-at ws i g (omega arith))

and-cond : (a b : Bool) → a && not b ≡ cond b false a
and-cond true true = refl
and-cond true false = refl
and-cond false true = refl
and-cond false false = refl

pub without-bit : (ws : List ℕ) (i : ℕ) → WordList set_words ws → i / 64 < set_words
    → set ws (i / 64) (bit_and (get_or ws (i / 64) 0) (2 ^ 64 - 1 - 1 * 2 ^ (i % 64) % 2 ^ 64)) ≡ without_member ws i
unfolding without_member
without-bit ws i g h =
    let old = get_or ws (i / 64) 0 in
    let mask = 2 ^ 64 - 1 - 2 ^ (i % 64) in
    rw (shift_one (i % 64) (omega arith))
    (set-of-is (set ws (i / 64) (bit_and old mask)) (λ j. has ws j && not (eqb i j))
    (set-words ws (i / 64) (bit_and old mask) g (lt_of_le_of_lt (and_le_l old mask) (g.small (i / 64))))
    (λ j _.
    has-word-set ws i (omega (arith, g.size)) (bit_and old mask) false
    (λ s l. rw (bit-and old mask s, bit_not 64 (2 ^ (i % 64)) s (pow-lt {j = 64} (omega arith)) l, bit-pow) (and-cond (bit old s) (eqb (i % 64) s))) j
    ∙ sym (and-cond (has ws j) (eqb i j))))

-- a word within another: their common bits are its own
word-within : (x y : ℕ) → x < 2 ^ 64 → ((s : ℕ) → s < 64 → bit x s ≡ true → bit y s ≡ true) → bit_and x y ≡ x
word-within x y h f = bit-ext 64 (bit_and x y) x (lt_of_le_of_lt (and_le_l x y) h) h (λ s l. rw (bit-and x y s) (go (bit x s) (bit y s) (f s l)))
  where
    go : (a b : Bool) → (a ≡ true → b ≡ true) → a && b ≡ a
    go true b g = g refl
    go false b g = refl

pub subset-words : (a b : List ℕ) → ((v : ℕ) → v < set_words → bit_and (get_or a v 0) (get_or b v 0) ≡ get_or a v 0) → is_subset a b ≡ true
unfolding has
subset-words a b f =
    subset-of a b (λ i h e. and_right (bit (get_or a (i / 64) 0) (i % 64)) (bit (get_or b (i / 64) 0) (i % 64))
    (sym (bit-and (get_or a (i / 64) 0) (get_or b (i / 64) 0) (i % 64)) ∙ ap (λ (x : ℕ). bit x (i % 64)) (f (i / 64) (omega arith)) ∙ e))

pub subset-not : (a b : List ℕ) (v : ℕ) → WordList set_words a → v < set_words → (bit_and (get_or a v 0) (get_or b v 0) ≡ get_or a v 0 → ⊥) → is_subset a b ≡ false
subset-not a b v g h ne = go (is_subset a b) refl
  where
    go : (t : Bool) → is_subset a b ≡ t → is_subset a b ≡ false
    go false e = e
    go true e =
        absurd (ne (word-within (get_or a v 0) (get_or b v 0) (g.small v) (λ s q m.
        sym (has-at b v s q) ∙ subset-at a b e (64 * v + s) (omega arith) (has-at a v s q ∙ m))))
