-- Laws of a chain that is written a position at a time. Assumes nothing.
use Rattle.std.specs.Prelude.{Option, None, Some}
use Prim.Native.Nat.{ℕ, zero, suc, ◌+◌, ◌≤◌, ◌<◌}
use mathlib.Core.Path.{◌≡◌, refl, sym, ap, ap₂, subst, ◌∙◌}
use mathlib.Core.List.{List, [], ◌∷◌, ◌++◌}
use native.Mathlib.Omega.{arith}
use lib.ListN.{length, get_or, set, drop, length-append}
use lib.Seq.{drop-cons, set_at, append_snoc}
use Rattle.cells.specs.Buffer.{written}
use Rattle.cells.proofs.Buffer.{written_none, length-written}
use Rattle.positions.specs.Below.{first_that}
use Rattle.positions.specs.Sets.{room, member_outside}
use Rattle.record.specs.Record.{most_features}
use Rattle.tables.specs.Tables.{row_or_none}
use Rattle.tables.proofs.RowLaws.{row_low}
use Rattle.chain.specs.Layers.{next_below, on_from, way_down, AllBelow}

-- one byte more behind what is written
written-more : (old new : List ℕ) (b : ℕ) → length new < length old → set (written old 0 new) (length new) b ≡ written old 0 (new ++ b ∷ [])
unfolding written
written-more old new b h =
    let z : 0 + length new ≡ length new = omega arith in
    let e : 0 + length (new ++ b ∷ []) ≡ suc (length new) = omega (arith, length-append new (b ∷ [])) in
    rw (z, e, drop-cons old (length new) 0 h)
    (set_at new (get_or old (length new) 0) (drop (suc (length new)) old) b (length new) refl ∙ sym (append_snoc new b (drop (suc (length new)) old)))

module _ (table : List ℕ) (layers : ℕ → List ℕ) where
  way-more : (k m i : ℕ) → k ≡ suc m → way_down table layers k i ≡ i ∷ on_from (way_down table layers m) (next_below table (layers m) i)
  unfolding way_down
  way-more k m i e = ap (λ (x : ℕ). way_down table layers x i) e

  way_at : (k i n : ℕ) → AllBelow n (way_down table layers k i) → i < n
  unfolding way_down
  way_at zero i n h = h.0
  way_at (suc k) i n h = h.0

-- a part of the way is written, and the rest leads on from a position that k layers hold
pub record Writing (table : List ℕ) (layers : ℕ → List ℕ) (held i : ℕ) (old out : List ℕ) (at k place : ℕ) : Type 0 where
  pub steps : place + k ≡ held
  pub few : held ≤ most_features
  pub fits : held < length old
  pub front : List ℕ
  pub long : length front ≡ place
  pub holds : out ≡ written old 0 front
  pub same : front ++ way_down table layers k at ≡ way_down table layers held i
  pub low : AllBelow most_features (way_down table layers k at)

pub write-begins : (table : List ℕ) (layers : ℕ → List ℕ) {held i k : ℕ} (old : List ℕ) → k ≡ held → held ≤ most_features → held < length old
    → AllBelow most_features (way_down table layers held i) → Writing table layers held i old old i k 0
write-begins table layers {i = i} old e few fits low = record {
  steps = omega arith;
  few = few;
  fits = fits;
  front = [];
  long = refl;
  holds = sym (written_none old 0);
  same = ap (λ (n : ℕ). way_down table layers n i) e;
  low = rw e low;
}

module _ {table : List ℕ} {layers : ℕ → List ℕ} {held i : ℕ} {old out : List ℕ} {at k place : ℕ} (w : Writing table layers held i old out at k place) where
  pub write_low : at < most_features
  write_low = way_at table layers k at most_features w.low

  pub write-length : length out ≡ length old
  write-length = ap length w.holds ∙ length-written old 0 w.front (omega (arith, w.steps, w.fits, w.long))

  put : set out place at ≡ written old 0 (w.front ++ at ∷ [])
  put =
      ap₂ (λ (l : List ℕ) (n : ℕ). set l n at) w.holds (sym w.long)
      ∙ written-more old w.front at (omega (arith, w.steps, w.fits, w.long))

  -- what is behind the position at hand
  module _ {m : ℕ} {row : List ℕ} {next : Option ℕ} (h : k ≡ suc m) (r : row ≡ row_or_none table at)
      (e : next ≡ first_that room (member_outside row (layers m))) where
    way_on : way_down table layers k at ≡ at ∷ on_from (way_down table layers m) next
    unfolding next_below
    way_on =
        way-more table layers k m at h
        ∙ ap (λ (x : Option ℕ). at ∷ on_from (way_down table layers m) x)
        (ap (λ (x : List ℕ). first_that room (member_outside x (layers m))) (sym (r ∙ row_low table at write_low)) ∙ sym e)

    pub write-more : {j : ℕ} → next ≡ Some j → Writing table layers held i old (set out place at) j m (place + 1)
    write-more {j} q =
        let way : way_down table layers k at ≡ at ∷ way_down table layers m j
        = way_on ∙ ap (λ (x : Option ℕ). at ∷ on_from (way_down table layers m) x) q in
        record {
          steps = omega (arith, w.steps);
          few = w.few;
          fits = w.fits;
          front = w.front ++ at ∷ [];
          long = omega (arith, length-append w.front (at ∷ []), w.long);
          holds = put;
          same = append_snoc w.front at (way_down table layers m j) ∙ ap (λ (l : List ℕ). w.front ++ l) (sym way) ∙ w.same;
          low = (subst (AllBelow most_features) way w.low).1;
        }

    pub write-stops : next ≡ None → set out place at ≡ written old 0 (way_down table layers held i)
    write-stops q =
        put ∙ ap (written old 0)
        (ap (λ (l : List ℕ). w.front ++ l) (sym (way_on ∙ ap (λ (x : Option ℕ). at ∷ on_from (way_down table layers m) x) q)) ∙ w.same)

  -- all layers are passed
  pub write-ends : place ≡ held → set out held at ≡ written old 0 (way_down table layers held i)
  unfolding way_down
  write-ends h =
      let z : k ≡ 0 = omega (arith, w.steps) in
      ap (λ (n : ℕ). set out n at) (sym h)
      ∙ put ∙ ap (written old 0) (ap (λ (m : ℕ). w.front ++ way_down table layers m at) (sym z) ∙ w.same)
