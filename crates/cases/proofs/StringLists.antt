-- What is answered of a string in a list (A3). Assumes nothing.
use Rattle.std.specs.Prelude.{Option, None, Some}
use Prim.Native.Nat.{ℕ}
use mathlib.Core.Path.{◌≡◌, refl, sym, ap, subst, ◌∙◌}
use mathlib.Core.List.{List}
use native.Mathlib.Omega.{arith}
use Rattle.refusal.specs.Refusal.{Outcome, answer, refuse}
use Rattle.stringlist.specs.StringList.{strings_bytes, StandsFirst, string_place}
use Rattle.stringlist.proofs.StringLaws.{are-strings, joined-strings}
use Rattle.stringlist.proofs.Stands.{place-stands, stands-place, zero-nowhere, cut-nowhere, empty-nowhere, place_kept, repeated-later}
use Rattle.answers.specs.Answers.{place_outcome}
use Rattle.cases.specs.Demand2.{Demand2List, find_string}

-- the answer says the place, or that there is none
told_at : (p : Option ℕ) {i : ℕ} → place_outcome p ≡ answer i → p ≡ Some i
told_at (Some k) e = ap Some (ap (λ (o : Outcome ℕ). o.value) e)
told_at None e = let z : ◌≡◌ {A = ℕ} 10 0 = ap (λ (o : Outcome ℕ). o.number) e in absurd (omega arith)

told_none : (p : Option ℕ) → place_outcome p ≡ refuse 0 10 → p ≡ None
told_none (Some k) e = let z : ◌≡◌ {A = ℕ} 0 10 = ap (λ (o : Outcome ℕ). o.number) e in absurd (omega arith)
told_none None e = refl

pub of-list : (list text : List ℕ) → Demand2List find_string list text
of-list list text = record {
  stands = λ i. (λ e. subst (StandsFirst list text) (told_at place e) (place-stands list text), λ s. ap place_outcome (sym (stands-place list text s)));
  stands_not = (λ e. subst (StandsFirst list text) (told_none place e) (place-stands list text), λ s. ap place_outcome (sym (stands-place list text s)));
  found_again = joined-strings;
  once = λ a b f g. sym (are-strings f).1 ∙ (are-strings g).1;
  cut_short = λ b h. ap place_outcome (cut-nowhere list b text h);
  empty = ap place_outcome (empty-nowhere text);
  zero_text = λ h. ap place_outcome (zero-nowhere list text h);
  kept = λ before after b a i e. ap place_outcome (place_kept text before after b a (told_at (string_place (strings_bytes before) text) e));
  repeated = λ strings t h i e. ap place_outcome (repeated-later strings t h (told_at (string_place (strings_bytes strings) t) e) text);
}
  where
    place : Option ℕ
    place = string_place list text
