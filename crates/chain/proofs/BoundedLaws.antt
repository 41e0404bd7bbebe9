-- The positions whose dependencies are all among the first n, and their counts, as they are gathered. Assumes nothing.
use Prim.Native.Nat.{ℕ, ◌+◌, ◌≤◌, ◌<◌}
use mathlib.Core.Path.{◌≡◌, sym, ap, subst, ◌∙◌}
use mathlib.Core.Bool.{Bool, true, false, cond}
use mathlib.Core.List.{List}
use native.Mathlib.Omega.{arith}
use borrow.Author.Count.{below_more}
use borrow.Author.Tests.{lt-ltb, le-leb}
use lib.ListN.{length, get_or, replicate, set as store, length-set}
use lib.Seq.{get_or-set_same, get_or-set_other}
use Rattle.positions.specs.Sets.{set_words, collect, set_of, no_members, with_member}
use Rattle.positions.proofs.SetLaws.{zeros}
use Rattle.record.specs.Record.{most_features, most_dependencies}
use Rattle.permitted.proofs.PermittedLaws.{none_yet, next}
use Rattle.tables.specs.Slots.{slot_number, used_slots}
use Rattle.form.specs.WellFormed.{slot_below, slots_fit}
use Rattle.form.specs.Slots.{slots_fit_at}
use Rattle.closure.specs.Slots.{slots_below}
use Rattle.chain.specs.declared.Bounded.{Bounded}
use Rattle.chain.specs.Parts.{BoundedPart}

-- what the test of a position's slots, as many as it uses, answers
pub slots-fit-is : (slots counts : List ℕ) (n i : ℕ) {m : ℕ} {b : Bool} → i < most_features → m ≡ used_slots counts i → b ≡ slots_fit_at slots n i m
    → b ≡ slots_below slots counts n i
unfolding used_slots slots_fit_at slots_fit slot_below slots_below
slots-fit-is slots counts n i {m} h e q =
    let used : m ≡ slot_number counts i = e ∙ rw (lt-ltb i most_features h) in
    q ∙ rw (lt-ltb i most_features h, used, le-leb (slot_number counts i) most_dependencies (omega arith))

-- the first i of n positions are gathered
pub record BoundedTo (slots counts : List ℕ) (n i : ℕ) (set used : List ℕ) : Type 0 where
  pub few : n ≤ most_features
  pub within : i ≤ n
  pub size : length used ≡ most_features
  pub members : set ≡ collect set_words i (slots_below slots counts n)
  pub counted : (j : ℕ) → j < i → get_or used j 0 ≡ cond (slots_below slots counts n j) (get_or counts j 0) 0
  pub rest : (j : ℕ) → i ≤ j → get_or used j 0 ≡ 0

-- the part is that of equal slots and counts
pub bounded-same : {a b c d : List ℕ} {m n : ℕ} {r : Bounded} → a ≡ b → c ≡ d → m ≡ n → BoundedPart a c m r → BoundedPart b d n r
bounded-same {a} {b} {c} {d} {m} {n} {r} e q z w =
    subst (λ (x : List ℕ). BoundedPart x d n r) e (subst (λ (x : List ℕ). BoundedPart a x n r) q (subst (λ (k : ℕ). BoundedPart a c k r) z w))

module _ (slots counts : List ℕ) (n : ℕ) where
  abbrev bounded : ℕ → Bool
  bounded = slots_below slots counts n

  abbrev own : ℕ → ℕ
  own j = cond (bounded j) (get_or counts j 0) 0

  pub bounded-none : {set used : List ℕ} → n ≤ most_features → set ≡ set_of no_members → used ≡ replicate most_features 0 → BoundedTo slots counts n 0 set used
  bounded-none h e q = record {
    few = h;
    within = omega arith;
    size = rw q;
    members = none_yet bounded e;
    counted = λ j l. absurd (omega arith);
    rest = λ j l. ap (λ (l : List ℕ). get_or l j 0) q ∙ zeros most_features j;
  }

  -- one position more: it is a member, or none
  module _ (i : ℕ) {set used new other : List ℕ} (t : BoundedTo slots counts n i set used) (low : i < n) where
    pub bounded-in : {b : Bool} → b ≡ slots_below slots counts n i → b ≡ true → new ≡ with_member set i → other ≡ store used i (get_or counts i 0)
        → BoundedTo slots counts n (i + 1) new other
    bounded-in f z q k =
        let e = sym f ∙ z in
        let x = get_or counts i 0 in
        record {
          few = t.few;
          within = omega arith;
          size = ap length k ∙ length-set used i x ∙ t.size;
          members = q ∙ next bounded i {on = true} t.members (omega (arith, t.few)) (sym e);
          counted = rw k
              (below_more (λ j. get_or (store used i x) j 0 ≡ own j) i (λ j l. get_or-set_other used i j x 0 (omega arith) ∙ t.counted j l)
              (get_or-set_same used i x 0 (omega (arith, t.size, t.few)) ∙ sym (rw e)));
          rest = λ j l. ap (λ (l : List ℕ). get_or l j 0) k ∙ get_or-set_other used i j x 0 (omega arith) ∙ t.rest j (omega arith);
        }

    pub bounded-out : {b : Bool} → b ≡ slots_below slots counts n i → b ≡ false → new ≡ set → other ≡ used → BoundedTo slots counts n (i + 1) new other
    bounded-out f z q k =
        let e = sym f ∙ z in
        record {
          few = t.few;
          within = omega arith;
          size = ap length k ∙ t.size;
          members = q ∙ next bounded i {on = false} t.members (omega (arith, t.few)) (sym e);
          counted = rw k (below_more (λ j. get_or used j 0 ≡ own j) i t.counted (t.rest i (omega arith) ∙ sym (rw e)));
          rest = λ j l. ap (λ (l : List ℕ). get_or l j 0) k ∙ t.rest j (omega arith);
        }
