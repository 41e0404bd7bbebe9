-- Laws of a member that is picked from a set: the lowest, or the highest. Assumes nothing.
use Prim.Native.Nat.{ℕ, ◌+◌, ◌-◌, ◌*◌, ◌/◌, ◌%◌, ◌^◌, ◌≤◌, ◌<◌}
use mathlib.Core.Path.{◌≡◌, sym, ap, subst, ◌∙◌}
use mathlib.Core.Bool.{Bool, true, false, not, ◌&&◌}
use mathlib.Core.List.{List}
use native.Mathlib.Decide.{dec_lt}
use native.Mathlib.Nat.{div-eq_of_lt-le, two-pow-succ}
use native.Mathlib.Omega.{arith}
use lib.Count.{count_leading_zeros, leading_top}
use lib.ListN.{get_or}
use Rattle.std.specs.Prelude.{Option, None, Some}
use Rattle.positions.specs.Bits.{bit, not_zero}
use Rattle.positions.specs.Below.{first_that}
use Rattle.positions.specs.Sets.{set_words, room, has, set_of, no_members, member_outside}
use Rattle.positions.proofs.BelowLaws.{and_left}
use Rattle.positions.proofs.BitLaws.{bit-none}
use Rattle.positions.proofs.FirstLaws.{IsFirst, first-that}
use Rattle.positions.proofs.MemberLaws.{has-set-of}
use Rattle.positions.proofs.SetLaws.{WordList, has-at}
use Rattle.closure.specs.Parts.{Picks}
use Rattle.closure.proofs.Sweeps.{and-true}

-- what the two answers say
module _ (s : List ℕ) {r : Option ℕ} (p : Picks s r) where
  pub picked-member : {i : ℕ} → r ≡ Some i → (i < room) × (has s i ≡ true)
  unfolding Picks
  picked-member e = subst (Picks s) e p

  pub picked_none : r ≡ None → (i : ℕ) → i < room → has s i ≡ false
  unfolding Picks
  picked_none e = subst (Picks s) e p

-- the lowest: the first member outside the empty set
module _ (s : List ℕ) {e : List ℕ} (empty : e ≡ set_of no_members) where
  first-picks : (r : Option ℕ) → IsFirst room (member_outside s e) r → Picks s r
  unfolding member_outside no_members Picks
  first-picks (Some i) f = (f.0, and_left (has s i) (not (has e i)) f.1)
  first-picks None f = λ i l.
      sym (and-true (has s i))
      ∙ ap (λ (b : Bool). has s i && not b) (sym (ap (λ (x : List ℕ). has x i) empty ∙ has-set-of no_members i l))
      ∙ f i l

  pub picks-lowest : {r : Option ℕ} → r ≡ first_that room (member_outside s e) → Picks s r
  picks-lowest {r} q = first-picks r (rw q (first-that room (member_outside s e)))

-- the words from w on have no members
pub record NoneFrom (s : List ℕ) (w : ℕ) : Type 0 where
  pub within : w ≤ set_words
  pub zero : (v : ℕ) → w ≤ v → v < set_words → get_or s v 0 ≡ 0

pub none-from-end : (s : List ℕ) → NoneFrom s set_words
none-from-end s = record { within = omega arith; zero = λ v h l. absurd (omega arith) }

pub none-from-next : (s : List ℕ) {v w : ℕ} → NoneFrom s w → v + 1 ≡ w → get_or s v 0 ≡ 0 → NoneFrom s v
none-from-next s {v} {w} n e z = record { within = omega (arith, n.within); zero = λ u h l. go u h l (dec_lt v u) }
  where
    go : (u : ℕ) → v ≤ u → u < set_words → Dec (v < u) → get_or s u 0 ≡ 0
    go u h l (yes q) = n.zero u (omega arith) l
    go u h l (no q) = let k : u ≡ v = omega arith in ap (λ (x : ℕ). get_or s x 0) k ∙ z

-- the highest bit of a word that is not zero
top_bit : (x : ℕ) → 0 < x → x < 2 ^ 64 → (count_leading_zeros 64 x ≤ 63) × (bit x (63 - count_leading_zeros 64 x) ≡ true)
unfolding bit
top_bit x p h =
    let t = leading_top 64 x p h in
    let j : 63 - count_leading_zeros 64 x ≡ t.0 = omega (arith, t.1) in
    let q : x / 2 ^ t.0 ≡ 1 = div-eq_of_lt-le (2 ^ t.0) (omega (arith, t.2)) (omega (arith, t.3, two-pow-succ t.0)) in
    (omega (arith, t.1), ap (λ (k : ℕ). not_zero (x / 2 ^ k % 2)) j ∙ ap (λ (y : ℕ). not_zero (y % 2)) q)

module _ (s : List ℕ) (g : WordList set_words s) where
  pub top_small : (w : ℕ) → (get_or s w 0 ≡ 0 → ⊥) → count_leading_zeros 64 (get_or s w 0) ≤ 63
  top_small w ne = (top_bit (get_or s w 0) (omega arith) (g.small w)).0

  pub picks-highest : (w : ℕ) → w < set_words → (get_or s w 0 ≡ 0 → ⊥) → Picks s (Some (64 * w + (63 - count_leading_zeros 64 (get_or s w 0))))
  unfolding Picks
  picks-highest w h ne =
      let t = top_bit (get_or s w 0) (omega arith) (g.small w) in
      (omega (arith, t.0), has-at s w (63 - count_leading_zeros 64 (get_or s w 0)) (omega arith) ∙ t.1)

  pub picks-none : {w : ℕ} → NoneFrom s w → w ≡ 0 → Picks s None
  unfolding has Picks
  picks-none n e = λ i h. ap (λ (x : ℕ). bit x (i % 64)) (n.zero (i / 64) (omega arith) (omega arith)) ∙ bit-none (i % 64)
