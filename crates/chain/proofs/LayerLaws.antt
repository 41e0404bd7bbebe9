-- Laws of layers: what one sweep leaves; where one takes nothing out, no later one does. Assumes nothing.
use Prim.Native.Nat.{ℕ, ◌≤◌, ◌<◌}
use mathlib.Core.Path.{◌≡◌, refl, sym, ap, ap₂, ◌∙◌}
use mathlib.Core.Bool.{Bool, true, false, ◌&&◌}
use mathlib.Core.List.{List}
use native.Mathlib.Decide.{le_ind}
use native.Mathlib.Omega.{arith}
use lib.Dec.{ltb}
use Rattle.positions.specs.Sets.{set_words, room, has, common, is_subset}
use Rattle.positions.proofs.BelowLaws.{and_left, and_right}
use Rattle.positions.proofs.SetLaws.{has-collect, collect-is}
use Rattle.positions.proofs.MemberLaws.{set-of-words, common-member, subset-at, subset-of, subset-same, subset-on}
use Rattle.record.specs.Record.{most_features}
use Rattle.tables.specs.Tables.{row_at, rows_inside}
use Rattle.chain.specs.Layers.{is_left, swept, layer_at}

-- the members that a sweep leaves
pub has-swept : (table s : List ℕ) (n i : ℕ) → n ≤ room → has (swept table n s) i ≡ ltb i n && is_left table s i
unfolding swept
has-swept table s n i h = has-collect set_words n (is_left table s) h i

-- they are the members whose rows are inside the set
pub layer-is : (table s : List ℕ) (n : ℕ) {rows t : List ℕ} → n ≤ most_features → rows ≡ rows_inside table n s
    → t ≡ common s rows → t ≡ swept table n s
unfolding swept is_left rows_inside common is_subset
layer-is table s n h e q =
    let inside : ℕ → Bool = λ i. is_subset (row_at table i) s in
    q ∙ ap (common s) e
    ∙ collect-is (common s (rows_inside table n s)) n (is_left table s) (set-of-words (λ i. has s i && has (rows_inside table n s) i))
    (omega arith) (λ i l.
    common-member s (rows_inside table n s) i l
    ∙ ap (λ (b : Bool). has s i && b) (has-collect set_words n inside (omega arith) i)
    ∙ swap (has s i) (ltb i n) (inside i))
  where
    swap : (a b c : Bool) → a && (b && c) ≡ b && (a && c)
    swap true b c = refl
    swap false true c = refl
    swap false false c = refl

-- what a sweep leaves of a subset it leaves of the set
swept-subset : (table s t : List ℕ) (n : ℕ) → n ≤ room → is_subset s t ≡ true → is_subset (swept table n s) (swept table n t) ≡ true
unfolding is_left
swept-subset table s t n h e =
    subset-of (swept table n s) (swept table n t) (λ i l q.
    let both = sym (has-swept table s n i h) ∙ q in
    let left = and_right (ltb i n) (is_left table s i) both in
    has-swept table t n i h
    ∙ ap₂ ◌&&◌ (and_left (ltb i n) (is_left table s i) both)
    (ap₂ ◌&&◌ (subset-at s t e i l (and_left (has s i) (is_subset (row_at table i) s) left))
    (subset-on (row_at table i) s t (and_right (has s i) (is_subset (row_at table i) s) left) e)))

-- where a sweep takes nothing out, no later one does
pub settled : (table p : List ℕ) (n k : ℕ) → n ≤ room → k ≤ n → is_subset (layer_at table n p k) (swept table n (layer_at table n p k)) ≡ true → (i : ℕ) → i < room
    → has (layer_at table n p k) i ≡ true → has (layer_at table n p n) i ≡ true
unfolding layer_at
settled table p n k h l e = subset-at s (layer_at table n p n) (le_ind (λ (m : ℕ). is_subset s (layer_at table n p m) ≡ true) (subset-same s) next n l)
  where
    s : List ℕ
    s = layer_at table n p k

    next : (m : ℕ) → k ≤ m → is_subset s (layer_at table n p m) ≡ true → is_subset s (swept table n (layer_at table n p m)) ≡ true
    next m b f = subset-on s (swept table n s) (swept table n (layer_at table n p m)) e (swept-subset table s (layer_at table n p m) n h f)
