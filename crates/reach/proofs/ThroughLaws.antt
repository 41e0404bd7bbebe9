-- The reach table by letting one position after the other through, over any relation. Assumes nothing.
use Prim.Native.Nat.{ℕ, ◌+◌, ◌≤◌, ◌<◌}
use mathlib.Core.Path.{◌≡◌, refl, sym, ap₂, subst, ◌∙◌}
use mathlib.Core.Bool.{Bool, true, false, ◌&&◌, ◌||◌}
use mathlib.Core.List.{List}
use mathlib.Core.Logic.{◌⊎◌, inl, inr, ⊎_elim}
use native.Mathlib.Nat.{eq-or-lt_of_le, le_of_suc-le-suc}
use native.Mathlib.Numerals.{add-one}
use native.Mathlib.Omega.{arith}
use borrow.Author.Tests.{eq-eqb, eqb-true}
use lib.Dec.{eqb}
use Rattle.positions.specs.Sets.{room}
use Rattle.positions.proofs.BelowLaws.{no_way, and_left, and_right, some_at, some_is}
use Rattle.record.specs.Record.{most_features}
use Rattle.tables.specs.Tables.{row_at, in_row}
use Rattle.closure.specs.Graph.{Below}
use Rattle.closure.specs.Reach.{Needs, self, via, reach}
use Rattle.enabled.specs.Parts.{Shows}
use Rattle.closure.proofs.Reach.{reach-needs, needs-below, needs-reach}
use Rattle.reach.specs.Parts.{with_self, through}

or_cases : (a b : Bool) → a || b ≡ true → (a ≡ true) ⊎ (b ≡ true)
or_cases true b e = inl refl
or_cases false b e = inr e

or_left : (a b : Bool) → a ≡ true → a || b ≡ true
or_left a b e = rw e

or_right : (a b : Bool) → b ≡ true → a || b ≡ true
or_right true b e = refl
or_right false b e = e

module _ (num : ℕ → ℕ) (dep : ℕ → ℕ → ℕ) (n : ℕ) where
  -- row i has i and its dependencies, only what is needed, and what is reached by way of a position below k
  pub record Through (k : ℕ) (R : ℕ → ℕ → Bool) : Type 0 where
    pub itself : (i : ℕ) → i < n → R i i ≡ true
    pub direct : (i : ℕ) → i < n → (j : ℕ) → j < num i → R i (dep i j) ≡ true
    pub needed : (i : ℕ) → i < n → (t : ℕ) → t < room → R i t ≡ true → Needs num dep i t
    pub passed : (m : ℕ) → m < k → (i : ℕ) → i < n → (t : ℕ) → t < room → R i m ≡ true → R m t ≡ true → R i t ≡ true

  needs-on : {i m t : ℕ} → Needs num dep i m → Needs num dep m t → Needs num dep i t
  needs-on self w = w
  needs-on (via j l v) w = via j l (needs-on v w)

  module _ (few : n ≤ most_features) (graph : Below n num dep) where
    -- position k let through
    module _ (k : ℕ) (kn : k < n) (R : ℕ → ℕ → Bool) (th : Through k R) where
      abbrev S : ℕ → ℕ → Bool
      S = through k R

      came : (i t : ℕ) → S i t ≡ true → (R i t ≡ true) ⊎ ((R i k ≡ true) × (R k t ≡ true))
      unfolding through
      came i t e =
          ⊎_elim (λ x. inl x) (λ y. inr (and_left (R i k) (R k t) y, and_right (R i k) (R k t) y)) (or_cases (R i t) (R i k && R k t) e)

      stay : (i t : ℕ) → R i t ≡ true → S i t ≡ true
      unfolding through
      stay i t e = or_left (R i t) (R i k && R k t) e

      come : (i t : ℕ) → R i k ≡ true → R k t ≡ true → S i t ≡ true
      unfolding through
      come i t q e = or_right (R i t) (R i k && R k t) (ap₂ ◌&&◌ q e)

      pass : (m : ℕ) → m < k + 1 → (i : ℕ) → i < n → (t : ℕ) → t < room → S i m ≡ true → S m t ≡ true → S i t ≡ true
      pass m h i l t lt a b = ⊎_elim (λ e. last e) (λ q. early q (came i m a) (came m t b)) (eq-or-lt_of_le (le_of_suc-le-suc (rw add-one at h)))
        where
          early : m < k → (R i m ≡ true) ⊎ ((R i k ≡ true) × (R k m ≡ true)) → (R m t ≡ true) ⊎ ((R m k ≡ true) × (R k t ≡ true)) → S i t ≡ true
          early q (inl x) (inl y) = stay i t (th.passed m q i l t lt x y)
          early q (inl x) (inr y) = come i t (th.passed m q i l k (omega arith) x y.0) y.1
          early q (inr x) (inl y) = come i t x.0 (th.passed m q k kn t lt x.1 y)
          early q (inr x) (inr y) = come i t x.0 y.1

          last : m ≡ k → S i t ≡ true
          last e =
              come i t (⊎_elim (λ y. y) (λ y. y.0) (came i k (subst (λ (x : ℕ). S i x ≡ true) e a)))
              (⊎_elim (λ y. y) (λ y. y.1) (came k t (subst (λ (x : ℕ). S x t ≡ true) e b)))

      pub through-more : Through (k + 1) (through k R)
      through-more =
          record {
            itself = λ i h. stay i i (th.itself i h);
            direct = λ i h j l. stay i (dep i j) (th.direct i h j l);
            needed = λ i h t l e.
                ⊎_elim (λ x. th.needed i h t l x) (λ x. needs-on (th.needed i h k (omega arith) x.0) (th.needed k kn t l x.1)) (came i t e);
            passed = pass;
          }

    -- all let through
    module _ (R : ℕ → ℕ → Bool) (th : Through n R) where
      holds : {i t : ℕ} → i < n → Needs num dep i t → R i t ≡ true
      holds {i} h self = th.itself i h
      holds {i} {t} h (via j l w) =
          let d = graph.below i h j l in
          let b = needs-below num dep n graph w d in
          th.passed (dep i j) d i h t (omega arith) (th.direct i h j l) (holds d w)

      pub through-all : (i t : ℕ) → i < n → t < room → R i t ≡ reach num dep n i t
      through-all i t h l = go (R i t) refl (reach num dep n i t) refl
        where
          go : (a : Bool) → R i t ≡ a → (b : Bool) → reach num dep n i t ≡ b → R i t ≡ reach num dep n i t
          go true q b r = q ∙ sym (needs-reach num dep n graph i t h (th.needed i h t l q))
          go false q false r = q ∙ sym r
          go false q true r = no_way (R i t) (holds h (reach-needs num dep n i t r)) q

    -- none let through: each position with its dependencies and itself
    pub through-none : (table : List ℕ) → Shows num dep n (row_at table) → Through 0 (with_self table)
    unfolding with_self
    through-none table sh =
        record {
          itself = λ i h. or_right (in_row table i i) (eqb i i) (eq-eqb i i refl);
          direct = λ i h j l.
              let b = graph.below i h j l in
              or_left (in_row table i (dep i j)) (eqb i (dep i j))
              (sh.rows i (dep i j) h (omega arith) ∙ some_at (num i) (λ k. eqb (dep i k) (dep i j)) j l (eq-eqb (dep i j) (dep i j) refl));
          needed = λ i h t l e. ⊎_elim (λ x. row i h t l x) (λ x. subst (Needs num dep i) (eqb-true i t x) self) (or_cases (in_row table i t) (eqb i t) e);
          passed = λ m h. absurd (omega arith);
        }
      where
        row : (i : ℕ) → i < n → (t : ℕ) → t < room → in_row table i t ≡ true → Needs num dep i t
        row i h t l x =
            let w = some_is (num i) (λ j. eqb (dep i j) t) (sym (sh.rows i t h l) ∙ x) in
            via w.0 w.1 (subst (Needs num dep (dep i w.0)) (eqb-true (dep i w.0) t w.2) self)
