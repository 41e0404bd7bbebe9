-- Sets of positions as 64-bit words, position 0 being the lowest bit of the first word.
use Rattle.std.specs.Prelude.{ℕ, zero, suc, ◌-◌, ◌*◌, ◌/◌, ◌%◌, ◌^◌, min, Bool, false, not, ◌&&◌, ◌||◌, cond, List, eqb, ltb, get_or, set, replicate}
use Rattle.std.specs.Int.Bits.{bit_or}
use Rattle.positions.specs.Below.{every, count}
use Rattle.positions.specs.Bits.{bit}

abbrev pub word_bits : ℕ
word_bits = 64

-- the words of a set, and the positions that they have room for
abbrev pub set_words : ℕ
set_words = 1

abbrev pub room : ℕ
room = word_bits * set_words

-- position i is a member
unfoldable pub has : List ℕ → ℕ → Bool
has words i = bit (get_or words (i / word_bits) 0) (i % word_bits)

-- the words with the bit of position i set
unfoldable pub insert_at : List ℕ → ℕ → List ℕ
insert_at words i = set words (i / word_bits) (bit_or (get_or words (i / word_bits) 0) (2 ^ (i % word_bits)))

-- in w words, the positions below m that pass a test
unfoldable pub collect : ℕ → ℕ → (ℕ → Bool) → List ℕ
collect w zero p = replicate w 0
collect w (suc m) p = cond (p m) (insert_at (collect w m p) m) (collect w m p)

-- the set of the positions that pass a test
unfoldable pub set_of : (ℕ → Bool) → List ℕ
set_of p = collect set_words room p

-- no position passes
unfoldable pub no_members : ℕ → Bool
no_members j = false

-- a set with position i, and without it
unfoldable pub with_member : List ℕ → ℕ → List ℕ
with_member words i = set_of (λ j. has words j || eqb i j)

unfoldable pub without_member : List ℕ → ℕ → List ℕ
without_member words i = set_of (λ j. has words j && not (eqb i j))

-- the members of both of two sets
unfoldable pub common : List ℕ → List ℕ → List ℕ
common a b = set_of (λ j. has a j && has b j)

-- the members of either of two sets
unfoldable pub either : List ℕ → List ℕ → List ℕ
either a b = set_of (λ j. has a j || has b j)

-- the positions below n, and word w of them
unfoldable pub first_positions : ℕ → List ℕ
first_positions n = set_of (λ j. ltb j n)

unfoldable pub word_below : ℕ → ℕ → ℕ
word_below n w = 2 ^ min (n - word_bits * w) word_bits - 1

-- every member of a is one of b
unfoldable pub is_subset : List ℕ → List ℕ → Bool
is_subset a b = every room (λ j. not (has a j) || has b j)

-- how many members there are
unfoldable pub member_count : List ℕ → ℕ
member_count words = count room (has words)

-- position j is a member of a and not of b
unfoldable pub member_outside : List ℕ → List ℕ → ℕ → Bool
member_outside a b j = has a j && not (has b j)
