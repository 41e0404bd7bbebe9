-- Laws of the reach table as the code builds it: each row with its own position, then row k in each row that has k. Assumes nothing.
use Prim.Native.Nat.{ℕ, ◌+◌, ◌≤◌, ◌<◌}
use mathlib.Core.Path.{◌≡◌, refl, sym, ap, ap₂, ◌∙◌}
use mathlib.Core.Bool.{Bool, true, false, ◌&&◌, ◌||◌, cond}
use mathlib.Core.List.{List}
use native.Mathlib.Decide.{dec_lt}
use native.Mathlib.Omega.{arith}
use borrow.Author.Tests.{lt-ltb, le-ltb, eq-eqb, eqb-true}
use lib.Dec.{eqb, ltb}
use Rattle.positions.specs.Sets.{room, has, set_of, no_members, with_member, either, is_subset}
use Rattle.positions.proofs.SetLaws.{or-false}
use Rattle.positions.proofs.MemberLaws.{has-set-of, set-of-same, with-member, subset-at, subset-of}
use Rattle.record.specs.Record.{most_features}
use Rattle.tables.specs.Tables.{row_at, row_or_none, table_of}
use Rattle.tables.specs.Parts.{with_row}
use Rattle.tables.proofs.RowLaws.{row_low}
use Rattle.tables.proofs.TableLaws.{row-table, table_same, put-table}
use Rattle.closure.specs.Reach.{reach}
use Rattle.enabled.specs.Parts.{Shows}
use Rattle.reach.specs.Parts.{with_self, joined, through, Joins, Reaches}
use Rattle.reach.proofs.ThroughLaws.{Through, through-none, through-more, through-all}

-- a row with its own position
pub self_row : (table : List ℕ) (i : ℕ) {s : List ℕ} → s ≡ row_at table i → with_member s i ≡ set_of (with_self table i)
unfolding with_member with_self
self_row table i e = rw e

-- the set of one position is inside of the sets that have it
pub own-inside : (words : List ℕ) (k : ℕ) → k < room → is_subset (with_member (set_of no_members) k) words ≡ has words k
unfolding no_members
own-inside words k h = go (has words k) refl (is_subset (with_member (set_of no_members) k) words) refl
  where
    alone : (i : ℕ) → i < room → has (with_member (set_of no_members) k) i ≡ eqb k i
    alone i l = with-member (set_of no_members) k i l ∙ ap (λ (b : Bool). b || eqb k i) (has-set-of no_members i l)

    go : (b : Bool) → has words k ≡ b → (s : Bool) → is_subset (with_member (set_of no_members) k) words ≡ s → s ≡ b
    go true e s f =
        sym f ∙ subset-of (with_member (set_of no_members) k) words (λ i l m.
        let same : k ≡ i = eqb-true k i (sym (alone i l) ∙ m) in
        rw same at e)
    go false e true f = sym (subset-at (with_member (set_of no_members) k) words f k h (alone k h ∙ eq-eqb k k refl)) ∙ e
    go false e false f = refl

-- the two answers of `joined`
pub joined_in : (row other : List ℕ) (k : ℕ) → has row k ≡ true → either row other ≡ joined row other k
unfolding joined
joined_in row other k e = rw e

pub joined-out : (row other : List ℕ) (k : ℕ) → has row k ≡ false → row ≡ joined row other k
unfolding joined
joined-out row other k e = rw e

-- the rows below m are joined, the others are as they were
unfoldable pub joined_below : ℕ → ℕ → (ℕ → ℕ → Bool) → ℕ → ℕ → Bool
joined_below m k R i t = cond (ltb i m) (through k R i t) (R i t)

module _ (n k : ℕ) (few : n ≤ most_features) (kn : k < n) (R : ℕ → ℕ → Bool) where
  joined-row : (i : ℕ) → joined (set_of (R i)) (set_of (R k)) k ≡ set_of (through k R i)
  unfolding through either
  joined-row i = go (R i k) refl
    where
      at : has (set_of (R i)) k ≡ R i k
      at = has-set-of (R i) k (omega arith)

      go : (b : Bool) → R i k ≡ b → joined (set_of (R i)) (set_of (R k)) k ≡ set_of (through k R i)
      go true q =
          sym (joined_in (set_of (R i)) (set_of (R k)) k (at ∙ q))
          ∙ set-of-same (λ t. has (set_of (R i)) t || has (set_of (R k)) t) (through k R i)
          (λ t h. ap₂ ◌||◌ (has-set-of (R i) t h) (has-set-of (R k) t h ∙ sym (ap (λ (b : Bool). b && R k t) q)))
      go false q =
          sym (joined-out (set_of (R i)) (set_of (R k)) k (at ∙ q))
          ∙ set-of-same (R i) (through k R i) (λ t h. sym (ap (λ (b : Bool). R i t || (b && R k t)) q ∙ or-false (R i t)))

  pub join-none : table_of n R ≡ table_of n (joined_below 0 k R)
  unfolding joined_below
  join-none = table_same n R (joined_below 0 k R) few (λ i t h l. rw (le-ltb i 0 (omega arith)))

  pub join_more : (m : ℕ) (table row other : List ℕ) → m < n → table ≡ table_of n (joined_below m k R) → other ≡ set_of (R k)
      → row ≡ joined (row_at table m) other k → with_row table m row ≡ table_of n (joined_below (m + 1) k R)
  unfolding joined_below
  join_more m table row other h e o q =
      ap (λ (t : List ℕ). with_row t m row) e
      ∙ put-table n n m (joined_below m k R) (joined_below (m + 1) k R) row (omega arith) few h new
      (λ j l ne. (l, λ t _. ap (λ (b : Bool). cond b (through k R j t) (R j t)) (same j ne (dec_lt j m))))
    where
      was : row_at table m ≡ set_of (R m)
      was =
          ap (λ (t : List ℕ). row_at t m) e
          ∙ row-table (joined_below m k R) n m h ∙ set-of-same (joined_below m k R m) (R m) (λ t _. rw (le-ltb m m (omega arith)))

      new : row ≡ set_of (joined_below (m + 1) k R m)
      new =
          q ∙ ap₂ (λ (x y : List ℕ). joined x y k) was o ∙ joined-row m
          ∙ set-of-same (through k R m) (joined_below (m + 1) k R m) (λ t _. rw (lt-ltb m (m + 1) (omega arith)))

      same : (j : ℕ) → (j ≡ m → ⊥) → Dec (j < m) → ltb j m ≡ ltb j (m + 1)
      same j ne (yes l) = lt-ltb j m l ∙ sym (lt-ltb j (m + 1) (omega arith))
      same j ne (no l) = le-ltb j m (omega arith) ∙ sym (le-ltb j (m + 1) (omega arith))

  pub join-all : (m : ℕ) → n ≤ m → table_of n (joined_below m k R) ≡ table_of n (through k R)
  unfolding joined_below
  join-all m h = table_same n (joined_below m k R) (through k R) few (λ i t l _. rw (lt-ltb i m (omega arith)))

-- the rows below m of a table joined, whatever relation it shows
pub record JoinsBelow (n k m : ℕ) (old new : List ℕ) : Type 0 where
  pub joins : (R : ℕ → ℕ → Bool) → old ≡ table_of n R → new ≡ table_of n (joined_below m k R)

module _ (n k : ℕ) (few : n ≤ most_features) (kn : k < n) (old : List ℕ) where
  pub joins-none : JoinsBelow n k 0 old old
  joins-none = record { joins = λ R e. e ∙ join-none n k few kn R }

  pub joins-more : (m : ℕ) (table own row other new : List ℕ) → m < n → JoinsBelow n k m old table → other ≡ row_or_none old k → own ≡ row_or_none table m
      → row ≡ joined own other k → new ≡ with_row table m row → JoinsBelow n k (m + 1) old new
  joins-more m table own row other new h j o w q p =
      let o' : other ≡ row_at old k = o ∙ row_low old k (omega arith) in
      let q' : row ≡ joined (row_at table m) other k = q ∙ ap (λ (x : List ℕ). joined x other k) (w ∙ row_low table m (omega arith)) in
      record {
        joins = λ R e. p ∙ join_more n k few kn R m table row other h (j.joins R e) (o' ∙ ap (λ (t : List ℕ). row_at t k) e ∙ row-table R n k kn) q';
      }

  pub joins-all : (m : ℕ) (table : List ℕ) → n ≤ m → JoinsBelow n k m old table → Joins n k old table
  joins-all m table h j R e = j.joins R e ∙ join-all n k few kn R m h

-- the positions below k are let through
pub record Closes (table : List ℕ) (n k : ℕ) (words : List ℕ) : Type 0 where
  pub shows : (num : ℕ → ℕ) (dep : ℕ → ℕ → ℕ) → Shows num dep n (row_at table)
      → (R : ℕ → ℕ → Bool) × Through num dep n k R × (words ≡ table_of n R)

module _ (table : List ℕ) (n : ℕ) (few : n ≤ most_features) where
  pub closes-none : (words : List ℕ) → words ≡ table_of n (with_self table) → Closes table n 0 words
  closes-none words e = record { shows = λ num dep sh. (with_self table, through-none num dep n few sh.below table sh, e) }

  pub closes-more : (k : ℕ) (old new : List ℕ) → k < n → Closes table n k old → Joins n k old new → Closes table n (k + 1) new
  closes-more k old new h c j =
      record {
        shows = λ num dep sh.
            let r = c.shows num dep sh in
            (through k r.0, through-more num dep n few sh.below k h r.0 r.1, j r.0 r.2);
      }

  pub closes-all : (k : ℕ) (words : List ℕ) → k ≡ n → Closes table n k words → Reaches table n words
  closes-all k words e c num dep sh =
      let r = c.shows num dep sh in
      let th : Through num dep n n r.0 = rw e at r.1 in
      r.2 ∙ table_same n r.0 (reach num dep n) few (λ i t h l. through-all num dep n few sh.below r.0 th i t h l)
