-- Laws of a table of rows that a test gives: its words, its rows, and a row replaced. Assumes nothing.
use Prim.Native.Nat.{ℕ, zero, suc, ◌+◌, ◌-◌, ◌*◌, ◌/◌, ◌%◌, ◌^◌, ◌≤◌, ◌<◌}
use mathlib.Core.Path.{◌≡◌, refl, sym, ap, subst, ◌∙◌}
use mathlib.Core.Bool.{Bool}
use mathlib.Core.List.{List, ◌++◌}
use native.Mathlib.Decide.{dec_lt, ℕ_discrete}
use native.Mathlib.Omega.{arith}
use lib.ListN.{length, get_or, replicate, length-append, length-replicate, get_or-append}
use lib.Seq.{get_or-append-add, ext_get_or}
use Rattle.positions.specs.Sets.{set_words, room, has, collect, set_of, no_members}
use Rattle.positions.proofs.SetLaws.{WordList, zeros, collect-words}
use Rattle.positions.proofs.MemberLaws.{has-set-of, set-of-words, set-of-same}
use Rattle.positions.proofs.SetCodeLaws.{zero-words}
use Rattle.record.specs.Record.{most_features}
use Rattle.tables.specs.Tables.{row_at, in_row, rows_below, table_words, table_of}
use Rattle.tables.specs.Parts.{with_row}
use Rattle.tables.proofs.RowLaws.{row_word, row_is, length-with-row, row-put, row_other}

-- lists of words one after the other
words_append : {m n : ℕ} (a b : List ℕ) → WordList m a → WordList n b → WordList (m + n) (a ++ b)
words_append a b g h = record { size = omega (arith, length-append a b, g.size, h.size); small = λ v. go v (dec_lt v (length a)) }
  where
    go : (v : ℕ) → Dec (v < length a) → get_or (a ++ b) v 0 < 2 ^ 64
    go v (yes l) = rw (get_or-append a b 0 v l) (g.small v)
    go v (no l) = let e : v ≡ length a + (v - length a) = omega arith in rw (e, get_or-append-add a b (v - length a) 0) (h.small (v - length a))

zero-list : (n : ℕ) → WordList n (replicate n 0)
unfolding collect
zero-list n = collect-words n 0 no_members

module _ (row : ℕ → ℕ → Bool) where
  rows_words : (n : ℕ) → WordList (set_words * n) (rows_below n row)
  unfolding rows_below
  rows_words zero = zero-list 0
  rows_words (suc n) =
      let e : set_words * n + set_words ≡ set_words * suc n = omega arith in
      subst (λ (k : ℕ). WordList k (rows_below n row ++ set_of (row n))) e (words_append (rows_below n row) (set_of (row n)) (rows_words n) (set-of-words (row n)))

  rows_at : (n i v : ℕ) → i < n → v < set_words → get_or (rows_below n row) (set_words * i + v) 0 ≡ get_or (set_of (row i)) v 0
  unfolding rows_below
  rows_at zero i v h l = absurd (omega arith)
  rows_at (suc n) i v h l = go (dec_lt i n) (λ q. rows_at n i v q l)
    where
      go : Dec (i < n) → (i < n → get_or (rows_below n row) (set_words * i + v) 0 ≡ get_or (set_of (row i)) v 0)
          → get_or (rows_below n row ++ set_of (row n)) (set_words * i + v) 0 ≡ get_or (set_of (row i)) v 0
      go (yes q) ih = get_or-append (rows_below n row) (set_of (row n)) 0 (set_words * i + v) (omega (arith, (rows_words n).size)) ∙ ih q
      go (no q) ih =
          let e : i ≡ n = omega arith in
          let s : set_words * n + v ≡ length (rows_below n row) + v = omega (arith, (rows_words n).size) in
          rw (e, s) (get_or-append-add (rows_below n row) (set_of (row n)) v 0)

  pub table-words : (n : ℕ) → n ≤ most_features → WordList table_words (table_of n row)
  unfolding table_of
  table-words n h =
      let rest = table_words - length (rows_below n row) in
      let e : set_words * n + rest ≡ table_words = omega (arith, (rows_words n).size) in
      subst (λ (k : ℕ). WordList k (table_of n row)) e (words_append (rows_below n row) (replicate rest 0) (rows_words n) (zero-list rest))

  -- a row below n, and one from n on
  pub row-table : (n i : ℕ) → i < n → row_at (table_of n row) i ≡ set_of (row i)
  unfolding table_of
  row-table n i h =
      sym (row_is (table_of n row) (set_of (row i)) i (set-of-words (row i)).size (λ v l.
      sym (get_or-append (rows_below n row) (replicate (table_words - length (rows_below n row)) 0) 0 (set_words * i + v) (omega (arith, (rows_words n).size))
      ∙ rows_at n i v h l)))

  pub row-table-past : (n i : ℕ) → n ≤ i → row_at (table_of n row) i ≡ set_of no_members
  unfolding table_of
  row-table-past n i h =
      sym (row_is (table_of n row) (replicate set_words 0) i (length-replicate {A = ℕ} set_words 0) (λ v l. zeros set_words v ∙ sym (none v))) ∙ zero-words
    where
      none : (v : ℕ) → get_or (table_of n row) (set_words * i + v) 0 ≡ 0
      none v =
          let k = table_words - length (rows_below n row) in
          let x = set_words * i + v - length (rows_below n row) in
          let e : set_words * i + v ≡ length (rows_below n row) + x = omega (arith, (rows_words n).size) in
          rw e (get_or-append-add (rows_below n row) (replicate k 0) x 0 ∙ zeros k x)

  pub in_table : (n i t : ℕ) → i < n → t < room → in_row (table_of n row) i t ≡ row i t
  in_table n i t h l = ap (λ (ws : List ℕ). has ws t) (row-table n i h) ∙ has-set-of (row i) t l

  pub zero-table : replicate table_words 0 ≡ table_of 0 row
  unfolding table_of rows_below
  zero-table = refl

-- two tables with the same rows are equal
pub table-ext : (a b : List ℕ) → length a ≡ table_words → length b ≡ table_words → ((i : ℕ) → i < most_features → row_at a i ≡ row_at b i) → a ≡ b
table-ext a b p q f = ext_get_or 0 a b (p ∙ sym q) (λ x h. at x (omega arith))
  where
    word : (l : List ℕ) (x : ℕ) → get_or l x 0 ≡ get_or (row_at l (x / set_words)) (x % set_words) 0
    word l x =
        let e : x ≡ set_words * (x / set_words) + x % set_words = omega arith in
        ap (λ (k : ℕ). get_or l k 0) e ∙ sym (row_word l (x / set_words) (x % set_words) (omega arith))

    at : (x : ℕ) → x < table_words → get_or a x 0 ≡ get_or b x 0
    at x h = word a x ∙ ap (λ (ws : List ℕ). get_or ws (x % set_words) 0) (f (x / set_words) (omega arith)) ∙ sym (word b x)

pub table_is : (a : List ℕ) (n : ℕ) (row : ℕ → ℕ → Bool) → length a ≡ table_words → n ≤ most_features → ((i : ℕ) → i < n → row_at a i ≡ set_of (row i))
    → ((i : ℕ) → n ≤ i → i < most_features → row_at a i ≡ set_of no_members) → a ≡ table_of n row
table_is a n row e h f g = table-ext a (table_of n row) e (table-words row n h).size (λ i l. go i l (dec_lt i n))
  where
    go : (i : ℕ) → i < most_features → Dec (i < n) → row_at a i ≡ row_at (table_of n row) i
    go i l (yes q) = f i q ∙ sym (row-table row n i q)
    go i l (no q) = g i (omega arith) l ∙ sym (row-table-past row n i (omega arith))

pub table_same : (n : ℕ) (f g : ℕ → ℕ → Bool) → n ≤ most_features → ((i t : ℕ) → i < n → t < room → f i t ≡ g i t) → table_of n f ≡ table_of n g
table_same n f g h e =
    table_is (table_of n f) n g (table-words f n h).size h (λ i l. row-table f n i l ∙ set-of-same (f i) (g i) (λ t q. e i t l q))
    (λ i l q. row-table-past f n i l)

-- row i replaced: of n rows that f gives, m rows that g gives
module _ (n m i : ℕ) (f g : ℕ → ℕ → Bool) (ws : List ℕ) (grows : n ≤ m) (few : m ≤ most_features) (low : i < m) (new : ws ≡ set_of (g i))
    (others : (j : ℕ) → j < m → (j ≡ i → ⊥) → (j < n) × ((t : ℕ) → t < room → f j t ≡ g j t)) where
  long : length ws ≡ set_words
  long = ap length new ∙ (set-of-words (g i)).size

  full : length (table_of n f) ≡ table_words
  full = (table-words f n (omega arith)).size

  pub put-table : with_row (table_of n f) i ws ≡ table_of m g
  put-table = table_is (with_row (table_of n f) i ws) m g (length-with-row (table_of n f) i ws ∙ full) few (λ j h. go j h (ℕ_discrete j i)) past
    where
      go : (j : ℕ) → j < m → Dec (j ≡ i) → row_at (with_row (table_of n f) i ws) j ≡ set_of (g j)
      go j h (yes q) = rw q (row-put (table_of n f) i ws long (omega (arith, full)) ∙ new)
      go j h (no q) = let o = others j h q in row_other (table_of n f) i ws j long q ∙ row-table f n j o.0 ∙ set-of-same (f j) (g j) o.1

      past : (j : ℕ) → m ≤ j → j < most_features → row_at (with_row (table_of n f) i ws) j ≡ set_of no_members
      past j h l = row_other (table_of n f) i ws j long (λ q. omega arith) ∙ row-table-past f n j (omega arith)

-- one row more
pub table_more : (f : ℕ → ℕ → Bool) (i : ℕ) (table ws : List ℕ) → table ≡ table_of i f → ws ≡ set_of (f i) → i < most_features
    → with_row table i ws ≡ table_of (i + 1) f
table_more f i table ws e q h =
    ap (λ (t : List ℕ). with_row t i ws) e
    ∙ put-table i (i + 1) i f f ws (omega arith) (omega arith) (omega arith) q (λ j l ne. (omega arith, λ t k. refl))

pub table-all : (f : ℕ → ℕ → Bool) (i n : ℕ) (table : List ℕ) → table ≡ table_of i f → i ≡ n → table ≡ table_of n f
table-all f i n table e q = e ∙ ap (λ (m : ℕ). table_of m f) q
