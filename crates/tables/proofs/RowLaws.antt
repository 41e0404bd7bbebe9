-- Laws of the rows of a table: their words, and a row replaced. Assumes nothing.
use Prim.Native.Nat.{ℕ, zero, suc, ◌+◌, ◌-◌, ◌*◌, ◌≤◌, ◌<◌}
use mathlib.Core.Path.{◌≡◌, refl, sym, ap, subst, ◌∙◌}
use mathlib.Core.List.{List, [], ◌∷◌, ◌++◌, append_assoc}
use native.Mathlib.Decide.{dec_lt}
use native.Mathlib.Nat.{add-zero}
use native.Mathlib.Numerals.{add-one}
use native.Mathlib.Omega.{arith}
use borrow.Author.Count.{below_more}
use borrow.Author.Tests.{lt-ltb, le-ltb}
use lib.ListN.{length, get_or, set, take, drop, length-set, length-take, length-drop}
use borrow.Rule.Slice.PartMut.{put_mid}
use Rattle.std.specs.List.{slice_range}
use Rattle.std.proofs.lemmas.List.{get_or-take, get_or-drop}
use lib.Seq.{drop-drop, sets, sets-eq, length-sets, get_or-set_same, get_or-set_other, ext_get_or, length-take-le, take-suc, take_all}
use Rattle.cells.specs.Buffer.{Stays, written}
use Rattle.cells.proofs.Rows.{length-each, row-at}
use Rattle.cells.proofs.Writing.{written-writes, nothing-stays}
use Rattle.positions.specs.Sets.{set_words, set_of, no_members}
use Rattle.record.specs.Record.{most_features}
use Rattle.tables.specs.Tables.{row_at, row_or_none, table_words}
use Rattle.tables.specs.Parts.{with_row, row_put}

-- the words of a row
pub length-row : (table : List ℕ) (i : ℕ) → length (row_at table i) ≡ set_words
unfolding row_at
length-row table i = length-each set_words (λ (w : ℕ). get_or table (set_words * i + w) 0)

pub row_word : (table : List ℕ) (i v : ℕ) → v < set_words → get_or (row_at table i) v 0 ≡ get_or table (set_words * i + v) 0
unfolding row_at
row_word table i v h = row-at set_words (λ (w : ℕ). get_or table (set_words * i + w) 0) v 0 h

pub row_is : (table ws : List ℕ) (i : ℕ) → length ws ≡ set_words → ((v : ℕ) → v < set_words → get_or ws v 0 ≡ get_or table (set_words * i + v) 0)
    → ws ≡ row_at table i
row_is table ws i e f = ext_get_or 0 ws (row_at table i) (e ∙ sym (length-row table i)) (λ v h. f v (omega arith) ∙ sym (row_word table i v (omega arith)))

-- a row as a part of the table
pub row-part : (table : List ℕ) (i : ℕ) → set_words * i + set_words ≤ length table → slice_range table (set_words * i) (set_words * i + set_words) ≡ row_at table i
row-part table i h =
    row_is table (slice_range table (set_words * i) (set_words * i + set_words)) i (simp (length-take, length-drop) (omega arith))
    (λ v l. get_or-take (set_words * i + set_words - set_words * i) _ v 0 (omega arith) ∙ get_or-drop (set_words * i) table v 0)

-- the first w words of a row are read
pub record ReadTo (table : List ℕ) (i : ℕ) (t : List ℕ) (w : ℕ) : Type 0 where
  pub within : w ≤ set_words
  pub size : length t ≡ set_words
  pub each : (v : ℕ) → v < w → get_or t v 0 ≡ get_or table (set_words * i + v) 0

pub read_none : (table : List ℕ) (i : ℕ) (t : List ℕ) → length t ≡ set_words → ReadTo table i t 0
read_none table i t e = record { within = omega arith; size = e; each = λ v h. absurd (omega arith) }

pub read_more : (table : List ℕ) (i : ℕ) (t : List ℕ) (w : ℕ) → ReadTo table i t w → w < set_words
    → ReadTo table i (set t w (get_or table (set_words * i + w) 0)) (w + 1)
read_more table i t w r h =
    let x = get_or table (set_words * i + w) 0 in
    record {
      within = omega arith;
      size = length-set t w x ∙ r.size;
      each =
          below_more (λ v. get_or (set t w x) v 0 ≡ get_or table (set_words * i + v) 0) w (λ v q. get_or-set_other t w v x 0 (omega arith) ∙ r.each v q)
          (get_or-set_same t w x 0 (omega (arith, r.size)));
    }

pub read_all : (table : List ℕ) (i : ℕ) (t : List ℕ) (w : ℕ) → ReadTo table i t w → set_words ≤ w → t ≡ row_at table i
read_all table i t w r h = row_is table t i r.size (λ v l. r.each v (omega arith))

-- a row past the last has no members
pub row-past : (table : List ℕ) (i : ℕ) → most_features ≤ i → set_of no_members ≡ row_or_none table i
unfolding row_or_none
row-past table i h = rw (le-ltb i most_features h)

pub row_low : (table : List ℕ) (i : ℕ) → i < most_features → row_or_none table i ≡ row_at table i
unfolding row_or_none
row_low table i h = rw (lt-ltb i most_features h)

-- a run of words stored from a place on
sets-before : (l vs : List ℕ) (i x : ℕ) → x < i → get_or (sets l i vs) x 0 ≡ get_or l x 0
sets-before l [] i x h = refl
sets-before l (a ∷ vs) i x h = sets-before (set l i a) vs (suc i) x (omega arith) ∙ get_or-set_other l i x a 0 (omega arith)

sets-past : (l vs : List ℕ) (i x : ℕ) → i + length vs ≤ x → get_or (sets l i vs) x 0 ≡ get_or l x 0
sets-past l [] i x h = refl
sets-past l (a ∷ vs) i x h = sets-past (set l i a) vs (suc i) x (omega arith) ∙ get_or-set_other l i x a 0 (omega arith)

sets-in : (l vs : List ℕ) (i v : ℕ) → v < length vs → i + length vs ≤ length l → get_or (sets l i vs) (i + v) 0 ≡ get_or vs v 0
sets-in l [] i v h f = absurd (omega arith)
sets-in l (a ∷ vs) i zero h f = rw (add-zero i) (sets-before (set l i a) vs (suc i) i (omega arith) ∙ get_or-set_same l i a 0 (omega arith))
sets-in l (a ∷ vs) i (suc v) h f =
    let e : i + suc v ≡ suc i + v = omega arith in
    rw e (sets-in (set l i a) vs (suc i) v (omega arith) (omega (arith, length-set l i a)))

sets_more : (l vs : List ℕ) (i a : ℕ) → set (sets l i vs) (i + length vs) a ≡ sets l i (vs ++ a ∷ [])
sets_more l [] i a = rw (add-zero i)
sets_more l (b ∷ vs) i a = let e : i + suc (length vs) ≡ suc i + length vs = omega arith in rw e (sets_more (set l i b) vs (suc i) a)

-- the first w words of a row are replaced
pub record PutTo (old : List ℕ) (i : ℕ) (words new : List ℕ) (w : ℕ) : Type 0 where
  pub within : w ≤ set_words
  pub same : new ≡ sets old (set_words * i) (take w words)

pub put-none : (old : List ℕ) (i : ℕ) (words : List ℕ) → PutTo old i words old 0
put-none old i words = record { within = omega arith; same = refl }

pub put-more : (old : List ℕ) (i : ℕ) (words new : List ℕ) (w : ℕ) → length words ≡ set_words → PutTo old i words new w → w < set_words
    → PutTo old i words (set new (set_words * i + w) (get_or words w 0)) (w + 1)
put-more old i words new w e r h =
    let n : length (take w words) ≡ w = length-take-le w words (omega arith) in
    record {
      within = omega arith;
      same =
          ap (λ (l : List ℕ). set l (set_words * i + w) (get_or words w 0)) r.same
          ∙ ap (λ (k : ℕ). set (sets old (set_words * i) (take w words)) (set_words * i + k) (get_or words w 0)) (sym n)
          ∙ sets_more old (take w words) (set_words * i) (get_or words w 0)
          ∙ ap (sets old (set_words * i)) (sym (take-suc words w 0 (omega arith)) ∙ ap (λ (k : ℕ). take k words) (sym (add-one w)));
    }

pub put_all : (old : List ℕ) (i : ℕ) (words new : List ℕ) (w : ℕ) → length words ≡ set_words → PutTo old i words new w → set_words ≤ w
    → new ≡ with_row old i words
unfolding with_row
put_all old i words new w e r h = r.same ∙ ap (sets old (set_words * i)) (take_all w words (omega arith))

-- the row is replaced where the table has it
pub row-put-low : (table : List ℕ) (i : ℕ) (words : List ℕ) → i < most_features → row_put table i words ≡ with_row table i words
unfolding row_put
row-put-low table i words h = rw (lt-ltb i most_features h)

pub row-put-past : (table : List ℕ) (i : ℕ) (words : List ℕ) → most_features ≤ i → table ≡ row_put table i words
unfolding row_put
row-put-past table i words h = rw (le-ltb i most_features h)

-- a row is written as bytes are into a lent buffer, and all other words stay
row_written : (table : List ℕ) (i : ℕ) (words : List ℕ) → set_words * i + length words ≤ length table
    → with_row table i words ≡ written table (set_words * i) words
unfolding with_row written
row_written table i words h =
    sets-eq words table (set_words * i) h
    ∙ append_assoc (take (set_words * i) table) words (drop (set_words * i + length words) table)

-- and as a part of the table
pub put-part : (table : List ℕ) (i : ℕ) (words : List ℕ) → length words ≡ set_words → set_words * i + set_words ≤ length table
    → put_mid (set_words * i) (set_words * i + set_words - set_words * i) table words ≡ with_row table i words
unfolding written
put-part table i words e h =
    let k : ℕ = set_words * i + set_words - set_words * i in
    let q : set_words * i + k ≡ set_words * i + length words = omega arith in
    ap (λ (l : List ℕ). take (set_words * i) table ++ (words ++ l)) (drop-drop k (set_words * i) table ∙ ap (λ (n : ℕ). drop n table) q)
    ∙ sym (row_written table i words (omega arith))

pub row_stays : (table : List ℕ) (i : ℕ) (words : List ℕ) → length table ≡ table_words → length words ≡ set_words
    → Stays table (set_words * i) set_words (row_put table i words)
row_stays table i words full whole = go (dec_lt i most_features)
  where
    go : Dec (i < most_features) → Stays table (set_words * i) set_words (row_put table i words)
    go (yes h) =
        let fits : set_words * i + length words ≤ length table = omega arith in
        subst (λ (n : ℕ). Stays table (set_words * i) n (row_put table i words)) whole
        (subst (Stays table (set_words * i) (length words)) (sym (row-put-low table i words h ∙ row_written table i words fits))
        (written-writes table (set_words * i) words fits).stays)
    go (no h) = subst (Stays table (set_words * i) set_words) (row-put-past table i words (omega arith)) (nothing-stays table (set_words * i) set_words)

-- the rows of a table with a row replaced
pub length-with-row : (table : List ℕ) (i : ℕ) (words : List ℕ) → length (with_row table i words) ≡ length table
unfolding with_row
length-with-row table i words = length-sets table (set_words * i) words

pub row-put : (table : List ℕ) (i : ℕ) (words : List ℕ) → length words ≡ set_words → set_words * i + set_words ≤ length table
    → row_at (with_row table i words) i ≡ words
unfolding with_row
row-put table i words e h =
    sym (row_is (sets table (set_words * i) words) words i e (λ v l. sym (sets-in table words (set_words * i) v (omega arith) (omega arith))))

pub row_other : (table : List ℕ) (i : ℕ) (words : List ℕ) (j : ℕ) → length words ≡ set_words → (j ≡ i → ⊥)
    → row_at (with_row table i words) j ≡ row_at table j
unfolding with_row
row_other table i words j e ne =
    row_is table (row_at (sets table (set_words * i) words) j) j (length-row (sets table (set_words * i) words) j)
    (λ v l. row_word (sets table (set_words * i) words) j v l ∙ go v l (dec_lt j i))
  where
    go : (v : ℕ) → v < set_words → Dec (j < i) → get_or (sets table (set_words * i) words) (set_words * j + v) 0 ≡ get_or table (set_words * j + v) 0
    go v l (yes q) = sets-before table words (set_words * i) (set_words * j + v) (omega arith)
    go v l (no q) = sets-past table words (set_words * i) (set_words * j + v) (omega arith)
