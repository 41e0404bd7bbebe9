-- The way down the layers is the shortest chain, of every graph that the table shows. Assumes nothing.
use Rattle.std.specs.Prelude.{Option, Some}
use Prim.Native.Nat.{ℕ, zero, suc, ◌+◌, ◌≤◌, ◌<◌}
use mathlib.Core.Path.{◌≡◌, refl, sym, ap, ap₂, subst, ◌∙◌}
use mathlib.Core.Bool.{Bool, true, false, not, ◌&&◌}
use mathlib.Core.List.{List, ◌∷◌}
use native.Mathlib.Decide.{le_ind}
use native.Mathlib.Omega.{arith}
use lib.ListN.{length}
use Rattle.positions.specs.Sets.{room, has, member_outside}
use Rattle.positions.proofs.BelowLaws.{and_left, and_right}
use Rattle.positions.proofs.FirstLaws.{first-is}
use Rattle.tables.specs.Tables.{row_at}
use Rattle.closure.specs.Enabled.{after_sweeps}
use Rattle.closure.specs.Shortest.{next, chain_within}
use Rattle.enabled.specs.Parts.{Shows}
use Rattle.closure.proofs.Sweeps.{sweeps-dependencies}
use Rattle.closure.proofs.Smallest.{smallest-le}
use Rattle.closure.proofs.Shortest.{next-is}
use Rattle.chain.specs.Layers.{next_below, on_from, way_down, AllBelow}
use Rattle.chain.proofs.SweepLaws.{in-row, from_row, out-on}

module _ (num : ℕ → ℕ) (dep : ℕ → ℕ → ℕ) (n : ℕ) (table : List ℕ) (shows : Shows num dep n (row_at table)) (few : n ≤ room) (permitted : ℕ → Bool) where
  abbrev left : ℕ → ℕ → Bool
  left = after_sweeps num dep permitted

  abbrev chain_of : ℕ → ℕ → List ℕ
  chain_of = chain_within num dep permitted room

  -- the smallest dependency that k sweeps leave out is the lowest member of the row outside layer k
  next-below : (layer : List ℕ) (k : ℕ) → ((i : ℕ) → i < n → has layer i ≡ left k i) → (i : ℕ) → i < n → (j : ℕ) → j < num i
      → dep i j ≡ next num dep permitted room k i → left k (dep i j) ≡ false → Some (next num dep permitted room k i) ≡ next_below table layer i
  unfolding next_below member_outside
  next-below layer k f i h j q e out = first-is room outside {r = Some s} (low, here, before)
    where
      outside : ℕ → Bool
      outside = member_outside (row_at table i) layer

      s : ℕ
      s = next num dep permitted room k i

      low : s < room
      low = let b = shows.below.below i h j q in omega (arith, e)

      here : outside s ≡ true
      here =
          subst (λ (t : ℕ). outside t ≡ true) e
          (ap₂ ◌&&◌ (in-row num dep n table shows few i j h q) (ap not (f (dep i j) (shows.below.below i h j q) ∙ out)))

      before : (t : ℕ) → t < s → outside t ≡ false
      before t l = go (outside t) refl
        where
          go : (b : Bool) → outside t ≡ b → outside t ≡ false
          go false e = e
          go true e =
              let w = from_row num dep n table shows few i t h (omega (arith, low)) (and_left (has (row_at table i) t) (not (has layer t)) e) in
              let out = ap not (sym (f (dep i w.0) (shows.below.below i h w.0 w.1))) ∙ ap (λ (x : ℕ). not (has layer x)) w.2
              ∙ and_right (has (row_at table i) t) (not (has layer t)) e in
              let le = smallest-le (dep i) (λ d. not (left k d)) room (num i) w.0 w.1 out in
              absurd (omega (arith, w.2))

  -- from a position that k layers hold and k sweeps leave out
  pub record WayIs (layers : ℕ → List ℕ) (k i : ℕ) : Type 0 where
    pub chain : way_down table layers k i ≡ chain_within num dep permitted room k i
    pub low : AllBelow n (way_down table layers k i)
    pub long : length (way_down table layers k i) ≡ k + 1

  pub way-chain : (layers : ℕ → List ℕ) (k i : ℕ) → i < n → ((m : ℕ) → m < k → (x : ℕ) → x < n → has (layers m) x ≡ after_sweeps num dep permitted m x)
      → ((m : ℕ) → m < k → after_sweeps num dep permitted m i ≡ true) → after_sweeps num dep permitted k i ≡ false → WayIs layers k i
  unfolding way_down chain_within
  way-chain layers zero i h f held out = record { chain = refl; low = (h, tt); long = omega arith }
  way-chain layers (suc k) i h f held out =
      let here = held k (omega arith) in
      let s = next num dep permitted room k i in
      let w = next-is num dep permitted room k i (λ j q. let b = shows.below.below i h j q in omega arith) here out in
      let e = next-below (layers k) k (f k (omega arith)) i h w.0 w.1 w.2 w.3 in
      let r = way-chain layers k s (subst (λ (x : ℕ). x < n) w.2 (shows.below.below i h w.0 w.1)) (λ m q. f m (omega arith))
      (λ m q. subst (λ (x : ℕ). left m x ≡ true) w.2 (sweeps-dependencies num dep permitted m i (held (suc m) (omega arith)) w.0 w.1))
      (subst (λ (x : ℕ). left k x ≡ false) w.2 w.3) in
      let way : way_down table layers (suc k) i ≡ i ∷ way_down table layers k s = ap (λ (x : Option ℕ). i ∷ on_from (way_down table layers k) x) (sym e) in
      record {
        chain = way ∙ rw here (ap (λ (c : List ℕ). i ∷ c) r.chain);
        low = subst (AllBelow n) (sym way) (h, r.low);
        long = let l = ap length way in omega (arith, r.long);
      }

  -- sweeps after the first that leaves a position out do not change its chain
  pub chain-on : (k i : ℕ) → after_sweeps num dep permitted k i ≡ false → (m : ℕ) → k ≤ m
      → chain_within num dep permitted room m i ≡ chain_within num dep permitted room k i
  unfolding chain_within
  chain-on k i e = le_ind (λ (m : ℕ). chain_of m i ≡ chain_of k i) refl (λ m q f. rw (out-on num dep n table shows few permitted k i e m q) f)
