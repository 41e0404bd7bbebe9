-- What is found of a phandle behind the features of some nodes. Assumes nothing.
use mathlib.Core.Path.{◌≡◌, refl, sym, ap, ◌∙◌}
use mathlib.Core.Bool.{Bool, true, false, not}
use mathlib.Core.List.{List}
use mathlib.Core.Logic.{◌⊎◌, inl, inr}
use Prim.Native.Nat.{ℕ}
use native.Mathlib.Omega.{arith}
use borrow.Author.Tests.{ne_eqb}
use lib.Dec.{eqb}
use lib.ListN.{length}
use Rattle.std.specs.Prelude.{Option, None, Some, Ok, Err, is_some}
use Rattle.cells.specs.Cells.{cell_at}
use Rattle.names.specs.Names.{either}
use Rattle.tokens.specs.Steps.{pick}
use Rattle.positions.specs.Below.{is_somewhere}
use Rattle.positions.proofs.FirstLaws.{IsFirst}
use Rattle.refusal.specs.declared.Refusal.{Refusal}
use Rattle.refusal.specs.declared.Refusal.TheVariants.{OutOfRange, Repeated}
use Rattle.refusal.proofs.Numbers.{numbered}
use Rattle.feature.specs.Feature.{first_of}
use Rattle.feature.specs.Phandles.{is_at}
use Rattle.feature.proofs.RefusalLaws.{first-left}
use Rattle.nodes.specs.Nodes.{Node}
use Rattle.nodes.specs.Values.{Value, missing, value}
use Rattle.reading.specs.Dependencies.{carrier}
use Rattle.reading.specs.Features.{some, carries, is_phandle, is_repeated, phandle_checks}
use Rattle.reader.specs.Parts.{cell_fault, CellIs, Judged, ArePhandles, PhandleIs}
use Rattle.reader.proofs.JudgedLaws.{judged-both}
use Rattle.reading.proofs.Carriers.{some-carrier}
use Rattle.reader.proofs.PhandleLaws.{carrier-is}
use Rattle.reader.proofs.PropertyLaws.{judged-pick, form-judged}

-- the number that a phandle's checks find
abbrev pub phandle_fault : List Node → Value → ℕ
phandle_fault before v = first_of (cell_fault false v) (first_of (pick (is_phandle v) 0 12) (pick (not (is_repeated before v)) 0 9))

phandle-judged : (before : List Node) (v : Value) (at : ℕ) {k : ℕ} → k ≡ phandle_fault before v → Judged (phandle_checks at before v) k at
phandle-judged before v at e =
    rw e
    (judged-both _ _ (form-judged v at)
    (λ z. judged-both _ _ (judged-pick (is_phandle v) 12 at (omega arith)) (λ z. judged-pick (not (is_repeated before v)) 9 at (omega arith))))

-- refused by its form
module _ {phandles : List (Option ℕ)} {n : ℕ} where
  pub phandle-refused : {v : Value} {e : Refusal} → CellIs false v (Err e) → PhandleIs phandles n v (Err e)
  phandle-refused {v} {e} h = record {
    judged = λ before y k at. phandle-judged before v at (h.fault ∙ first-left (cell_fault false v) _ (λ z. numbered e (h.fault ∙ z)));
    cell = λ z. absurd (numbered e z);
  }

-- given: "neither 0 nor all ones"
abbrev is_good : ℕ → Bool
is_good p = not (either (eqb p 0) (eqb p 0xffffffff))

-- what is found of a cell that is given, by what is found of its number
fault-given : (before : List Node) (v : Value) {p : ℕ} → CellIs false v (Ok (Some p))
    → phandle_fault before v ≡ first_of (pick (is_good p) 0 12) (pick (not (some (carries p) before)) 0 9)
fault-given before missing h = let e = h.cell refl in cc
fault-given before (value bs) {p} h =
    let e : cell_at bs 0 ≡ p = let q = h.cell refl in cc in
    rw (sym h.fault, e)

module _ {v : Value} {p : ℕ} (h : CellIs false v (Ok (Some p))) where
  pub phandle-out : (p ≡ 0) ⊎ (p ≡ 0xffffffff) → {phandles : List (Option ℕ)} {n : ℕ} → PhandleIs phandles n v (Err OutOfRange)
  phandle-out o = record {
    judged = λ before y k at. phandle-judged before v at (sym (fault-given before v h ∙ ap (λ (b : Bool). first_of (pick b 0 12) (pick (not (some (carries p) before)) 0 9)) (bad o)));
    cell = λ z. absurd (omega arith);
  }
    where
      bad : (p ≡ 0) ⊎ (p ≡ 0xffffffff) → is_good p ≡ false
      bad (inl z) = rw z
      bad (inr z) = rw z

  module _ (z : p ≡ 0 → ⊥) (o : p ≡ 0xffffffff → ⊥) (phandles : List (Option ℕ)) where
    good : is_good p ≡ true
    good = rw (ne_eqb p 0 z, ne_eqb p 0xffffffff o)

    fault-is : {n : ℕ} (x : Option ℕ) → IsFirst n (is_at phandles p) x → (before : List Node) → ArePhandles phandles before → n ≡ length before
        → ◌≡◌ {A = ℕ} (pick (not (is_somewhere x)) 0 9) (phandle_fault before v)
    fault-is x f before y k =
        let w : x ≡ carrier before p = carrier-is phandles before y p k f in
        let s : some (carries p) before ≡ is_somewhere x = some-carrier p before ∙ ap is_somewhere (sym w) in
        sym (fault-given before v h ∙ rw (good, s))

    pub phandle-again : {n : ℕ} (x : Option ℕ) → IsFirst n (is_at phandles p) x → is_some x ≡ true → PhandleIs phandles n v (Err Repeated)
    phandle-again x f e = record {
      judged = λ before y k at. phandle-judged before v at (sym (there x e) ∙ fault-is x f before y k);
      cell = λ z. absurd (omega arith);
    }
      where
        there : (x : Option ℕ) → is_some x ≡ true → ◌≡◌ {A = ℕ} (pick (not (is_somewhere x)) 0 9) 9
        there None e = cc
        there (Some i) e = refl

    pub phandle-new : {n : ℕ} (x : Option ℕ) → IsFirst n (is_at phandles p) x → is_some x ≡ false → PhandleIs phandles n v (Ok (Some p))
    phandle-new x f e = record {
      judged = λ before y k at. phandle-judged before v at (sym (nowhere x e) ∙ fault-is x f before y k);
      cell = h.cell;
    }
      where
        nowhere : (x : Option ℕ) → is_some x ≡ false → ◌≡◌ {A = ℕ} (pick (not (is_somewhere x)) 0 9) 0
        nowhere None e = refl
        nowhere (Some i) e = cc
