-- All of some checks hold, or the first that fails; what that decides. Assumes nothing.
use mathlib.Core.Path.{◌≡◌, refl, sym, ap, ◌∙◌}
use mathlib.Core.Bool.{Bool, false}
use mathlib.Core.List.{List, [], ◌∷◌, ◌++◌, append_assoc}
use Prim.Native.Nat.{ℕ}
use Rattle.refusal.specs.Refusal.{Fault, fault}
use Rattle.refusal.specs.Checks.{Check, check, first_fault}
use Rattle.reading.specs.Ends.{AllHold, FirstFailing}

-- all of some checks hold
pub hold-both : (cs ds : List (Check Fault)) → AllHold cs → AllHold ds → AllHold (cs ++ ds)
hold-both [] ds h k = k
hold-both (c ∷ cs) ds h k = (h.0, hold-both cs ds h.1 k)

pub hold-parts : (cs ds : List (Check Fault)) → AllHold (cs ++ ds) → AllHold cs × AllHold ds
hold-parts [] ds h = (tt, h)
hold-parts (c ∷ cs) ds h = let r = hold-parts cs ds h.1 in ((h.0, r.0), r.1)

-- the first that fails, with checks behind it, or before it
pub fail-left : (cs ds : List (Check Fault)) {n p : ℕ} → FirstFailing cs n p → FirstFailing (cs ++ ds) n p
fail-left cs ds f = record {
  passed = f.passed;
  failed = f.failed;
  others = f.others ++ ds;
  split = ap (λ (l : List (Check Fault)). l ++ ds) f.split ∙ append_assoc f.passed (f.failed ∷ f.others) ds;
  hold = f.hold;
  fails = f.fails;
  finds = f.finds;
}

pub fail-right : (cs ds : List (Check Fault)) {n p : ℕ} → AllHold cs → FirstFailing ds n p → FirstFailing (cs ++ ds) n p
fail-right cs ds h f = record {
  passed = cs ++ f.passed;
  failed = f.failed;
  others = f.others;
  split = ap (λ (l : List (Check Fault)). cs ++ l) f.split ∙ sym (append_assoc cs f.passed (f.failed ∷ f.others));
  hold = hold-both cs f.passed h f.hold;
  fails = f.fails;
  finds = f.finds;
}

-- one check
pub fail-here : (k p : ℕ) {b : Bool} → b ≡ false → FirstFailing (check b (fault k p) ∷ []) k p
fail-here k p {b} e = record { passed = []; failed = check b (fault k p); others = []; split = refl; hold = tt; fails = e; finds = refl }

-- what decides
module _ {A : Type 0} (refuse : Fault → A) where
  pub hold-decide : (cs : List (Check Fault)) (a : A) → AllHold cs → first_fault refuse cs a ≡ a
  unfolding first_fault
  hold-decide [] a h = refl
  hold-decide (c ∷ cs) a h = rw (h.0, first_fault) (hold-decide cs a h.1)

  pub hold-skips : (cs ds : List (Check Fault)) (a : A) → AllHold cs → first_fault refuse (cs ++ ds) a ≡ first_fault refuse ds a
  unfolding first_fault
  hold-skips [] ds a h = refl
  hold-skips (c ∷ cs) ds a h = rw (h.0, first_fault) (hold-skips cs ds a h.1)

  fail-behind : (cs : List (Check Fault)) (c : Check Fault) (ds : List (Check Fault)) (a : A) → AllHold cs → c.holds ≡ false
      → first_fault refuse (cs ++ c ∷ ds) a ≡ refuse c.fault
  unfolding first_fault
  fail-behind [] c ds a h e = rw (e, first_fault)
  fail-behind (b ∷ cs) c ds a h e = rw (h.0, first_fault) (fail-behind cs c ds a h.1 e)

  pub fail-decides : (cs : List (Check Fault)) (a : A) {n p : ℕ} → FirstFailing cs n p → first_fault refuse cs a ≡ refuse (fault n p)
  fail-decides cs a f =
      ap (λ (l : List (Check Fault)). first_fault refuse l a) f.split
      ∙ fail-behind f.passed f.failed f.others a f.hold f.fails
      ∙ ap refuse f.finds
