-- Laws of the layers that hold a position, as they are gathered. Assumes nothing.
use Prim.Native.Nat.{ℕ, ◌+◌, ◌≤◌, ◌<◌}
use mathlib.Core.Path.{◌≡◌, refl, sym, ap, ◌∙◌}
use mathlib.Core.Bool.{Bool, true}
use mathlib.Core.List.{List, []}
use native.Mathlib.Numerals.{add-one}
use native.Mathlib.Omega.{arith}
use borrow.Author.Count.{below_more}
use lib.ListN.{length, set, length-set}
use lib.Seq.{get_or-set_same, get_or-set_other}
use Rattle.positions.specs.declared.Set.{Set}
use Rattle.positions.specs.Sets.{has, is_subset}
use Rattle.record.specs.Record.{most_features}
use Rattle.chain.specs.Layers.{swept, layer_at, set_at}
use Rattle.chain.proofs.LayerLaws.{settled}

-- the first k layers hold position i, and are gathered; the next is at hand
pub record Falling (table : List ℕ) (n : ℕ) (p : List ℕ) (i : ℕ) (sets : List Set) (s : Set) (k : ℕ) : Type 0 where
  pub few : n ≤ most_features
  pub low : i < n
  pub within : k ≤ n
  pub size : length sets ≡ most_features
  pub next : s.words ≡ layer_at table n p k
  pub layers : (m : ℕ) → m < k → set_at sets m ≡ layer_at table n p m
  pub holds : (m : ℕ) → m < k → has (layer_at table n p m) i ≡ true

pub fall_begins : (table : List ℕ) (sets : List Set) (s : Set) {n i : ℕ} → length sets ≡ most_features → n ≤ most_features → i < n
    → Falling table n s.words i sets s 0
unfolding layer_at
fall_begins table sets s e h l =
    record { few = h; low = l; within = omega arith; size = e; next = refl; layers = λ m q. absurd (omega arith); holds = λ m q. absurd (omega arith) }

module _ (table p : List ℕ) {n i k : ℕ} {sets : List Set} {s : Set} (f : Falling table n p i sets s k) where
  here : {b : Bool} → has s.words i ≡ b → has (layer_at table n p k) i ≡ b
  here e = ap (λ (l : List ℕ). has l i) (sym f.next) ∙ e

  -- one layer more
  pub fall-more : {t : Set} → k < n → has s.words i ≡ true → t.words ≡ swept table n s.words
      → Falling table n p i (set sets k s) t (k + 1)
  unfolding layer_at
  fall-more h e q = record {
    few = f.few;
    low = f.low;
    within = omega arith;
    size = length-set sets k s ∙ f.size;
    next = q ∙ ap (swept table n) f.next ∙ ap (layer_at table n p) (sym (add-one k));
    layers =
        below_more (λ m. set_at (set sets k s) m ≡ layer_at table n p m) k
        (λ m r. ap (λ (x : Set). x.words) (get_or-set_other sets k m s (record { words = [] }) (omega arith)) ∙ f.layers m r)
        (ap (λ (x : Set). x.words) (get_or-set_same sets k s (record { words = [] }) (omega (arith, f.few, f.size))) ∙ f.next);
    holds = below_more (λ m. has (layer_at table n p m) i ≡ true) k f.holds (here e);
  }

  -- a sweep takes nothing out
  pub fall-stays : {t : List ℕ} → t ≡ swept table n s.words → is_subset s.words t ≡ true → has s.words i ≡ true → has (layer_at table n p n) i ≡ true
  fall-stays q e h =
      settled table p n k (omega (arith, f.few)) f.within
      (ap (λ (l : List ℕ). is_subset l (swept table n l)) (sym f.next) ∙ ap (is_subset s.words) (sym q) ∙ e) i (omega (arith, f.few, f.low)) (here h)
