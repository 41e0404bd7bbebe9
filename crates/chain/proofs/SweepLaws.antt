-- Layer k is what k sweeps leave, of every graph that the table shows. Assumes nothing.
use Prim.Native.Nat.{ℕ, zero, suc, ◌≤◌, ◌<◌}
use mathlib.Core.Path.{◌≡◌, refl, sym, ap, ap₂, subst, ◌∙◌}
use mathlib.Core.Bool.{Bool, true, false, ◌&&◌}
use mathlib.Core.List.{List}
use native.Mathlib.Decide.{le_ind}
use native.Mathlib.Omega.{arith}
use borrow.Author.Tests.{eqb-true, eq-eqb, lt-ltb}
use lib.Dec.{eqb}
use Rattle.positions.specs.Sets.{room, has, is_subset}
use Rattle.positions.proofs.BelowLaws.{and_left, and_right, no_way, some_at, some_is}
use Rattle.positions.proofs.MemberLaws.{subset-at, subset-of}
use Rattle.tables.specs.Tables.{row_at}
use Rattle.closure.specs.Enabled.{after_sweeps}
use Rattle.enabled.specs.Parts.{Shows}
use Rattle.closure.proofs.Sweeps.{sweeps-permitted, sweeps-dependencies, sweeps-of, sweeps-fewer}
use Rattle.chain.specs.Layers.{is_left, swept, layer_at}
use Rattle.chain.proofs.LayerLaws.{has-swept}

same_truth : (a b : Bool) → (a ≡ true → b ≡ true) → (b ≡ true → a ≡ true) → a ≡ b
same_truth true b f g = sym (f refl)
same_truth false true f g = g refl
same_truth false false f g = refl

module _ (num : ℕ → ℕ) (dep : ℕ → ℕ → ℕ) (n : ℕ) (table : List ℕ) (shows : Shows num dep n (row_at table)) (few : n ≤ room) where
  -- a row has the dependencies of its position
  pub in-row : (i j : ℕ) → i < n → j < num i → has (row_at table i) (dep i j) ≡ true
  in-row i j h l =
      let b = shows.below.below i h j l in
      shows.rows i (dep i j) h (omega arith) ∙ some_at (num i) (λ m. eqb (dep i m) (dep i j)) j l (eq-eqb (dep i j) (dep i j) refl)

  pub from_row : (i t : ℕ) → i < n → t < room → has (row_at table i) t ≡ true → (j : ℕ) × (j < num i) × (dep i j ≡ t)
  from_row i t h l e = let w = some_is (num i) (λ m. eqb (dep i m) t) (sym (shows.rows i t h l) ∙ e) in (w.0, w.1, eqb-true (dep i w.0) t w.2)

  module _ (permitted : ℕ → Bool) where
    abbrev left : ℕ → ℕ → Bool
    left = after_sweeps num dep permitted

    -- where a set holds what k sweeps leave, one sweep of it holds what k + 1 leave
    pub swept_once : (s : List ℕ) (k : ℕ) → ((i : ℕ) → i < n → has s i ≡ after_sweeps num dep permitted k i) → (i : ℕ) → i < n
        → has (swept table n s) i ≡ after_sweeps num dep permitted (suc k) i
    unfolding is_left
    swept_once s k f i h =
        has-swept table s n i few ∙ ap (λ (b : Bool). b && is_left table s i) (lt-ltb i n h) ∙ same_truth (is_left table s i) (left (suc k) i) to from
      where
        to : is_left table s i ≡ true → left (suc k) i ≡ true
        to e =
            sweeps-of num dep permitted k i (sweeps-permitted num dep permitted k i (sym (f i h) ∙ and_left (has s i) (is_subset (row_at table i) s) e)) (λ j l.
            let b = shows.below.below i h j l in
            sym (f (dep i j) b) ∙ subset-at (row_at table i) s (and_right (has s i) (is_subset (row_at table i) s) e) (dep i j) (omega arith) (in-row i j h l))

        from : left (suc k) i ≡ true → is_left table s i ≡ true
        from e =
            ap₂ ◌&&◌ (f i h ∙ sweeps-fewer num dep permitted k i e) (subset-of (row_at table i) s (λ t l q.
            let w = from_row i t h l q in
            subst (λ (x : ℕ). has s x ≡ true) w.2
            (f (dep i w.0) (shows.below.below i h w.0 w.1) ∙ sweeps-dependencies num dep permitted k i e w.0 w.1)))

    -- a position that k sweeps leave out stays out
    pub out-on : (k i : ℕ) → after_sweeps num dep permitted k i ≡ false → (m : ℕ) → k ≤ m → after_sweeps num dep permitted m i ≡ false
    out-on k i e = le_ind (λ (m : ℕ). left m i ≡ false) e (λ m q f. go m f (left (suc m) i) refl)
      where
        go : (m : ℕ) → left m i ≡ false → (b : Bool) → left (suc m) i ≡ b → left (suc m) i ≡ false
        go m f true g = no_way (left m i) (sweeps-fewer num dep permitted m i g) f
        go m f false g = g

  pub layer-sweeps : (p : List ℕ) (k i : ℕ) → i < n → has (layer_at table n p k) i ≡ after_sweeps num dep (has p) k i
  unfolding layer_at after_sweeps
  layer-sweeps p zero i h = refl
  layer-sweeps p (suc k) i h = swept_once (has p) (layer_at table n p k) k (layer-sweeps p k) i h
