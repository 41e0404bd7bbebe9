-- The first of two numbers that is a refusal, and of those of a feature's properties. Assumes nothing.
use mathlib.Core.Path.{◌≡◌, refl, sym, ap, ◌∙◌}
use Prim.Native.Nat.{ℕ, zero, suc}
use native.Mathlib.Omega.{arith}
use mathlib.Core.List.{List, [], ◌∷◌}
use lib.ListN.{get_or}
use Rattle.std.specs.Prelude.{Result, Ok, Err}
use Rattle.refusal.specs.declared.Refusal.{Refusal}
use Rattle.refusal.specs.Refusal.{Outcome, number_in, answer}
use Rattle.record.specs.declared.Feature.{Feature}
use Rattle.record.specs.declared.Property.{Property}
use Rattle.record.specs.declared.Property.TheVariants.{Isa, UsablePrivilege, HvSupport, OsSupport, HfscrBitNr, FscrBitNr, HwcapBitNr, Phandle, Dependencies}
use Rattle.feature.specs.declared.FeatureCells.{FeatureCells}
use Rattle.feature.specs.Feature.{read_of, refused_number, first_of, first_among, cell_numbers, refusal_of, feature_from, feature_or, feature_read, feature_outcome}

pub first-left : (m n : ℕ) → (m ≡ 0 → ⊥) → m ≡ first_of m n
first-left zero n z = absurd (z refl)
first-left (suc m) n z = refl

pub first-none : (m : ℕ) → m ≡ first_of m 0
first-none zero = refl
first-none (suc m) = refl

pub first-zero : (m n : ℕ) → first_of m n ≡ 0 → (m ≡ 0) × (n ≡ 0)
first-zero zero n e = (refl, e)
first-zero (suc m) n e = absurd (omega arith)

-- where no property is refused, none is
among-zero : (ns : List ℕ) → first_among ns ≡ 0 → (i : ℕ) → get_or ns i 0 ≡ 0
among-zero [] z i = refl
among-zero (n ∷ ns) z zero = (first-zero n (first_among ns) z).0
among-zero (n ∷ ns) z (suc i) = among-zero ns (first-zero n (first_among ns) z).1 i

pub none-refused : (c : FeatureCells) → refusal_of c ≡ 0 → (p : Property) → refused_number (read_of c p).refusal ≡ 0
none-refused c z Isa = among-zero (cell_numbers c) z 0
none-refused c z UsablePrivilege = among-zero (cell_numbers c) z 1
none-refused c z HvSupport = among-zero (cell_numbers c) z 2
none-refused c z OsSupport = among-zero (cell_numbers c) z 3
none-refused c z HfscrBitNr = among-zero (cell_numbers c) z 4
none-refused c z FscrBitNr = among-zero (cell_numbers c) z 5
none-refused c z HwcapBitNr = among-zero (cell_numbers c) z 6
none-refused c z Phandle = among-zero (cell_numbers c) z 7
none-refused c z Dependencies = among-zero (cell_numbers c) z 8

-- what an answer says of the refusals, and the feature that it has
left : (r : Result Feature Refusal) → (feature_outcome r).number ≡ number_in r
left (Ok f) = refl
left (Err s) = refl

right : (n : ℕ) (f : Feature) → (feature_or n f).number ≡ n
right zero f = refl
right (suc n) f = refl

answered : (n : ℕ) (f g : Feature) → answer f ≡ feature_or n g → f ≡ g
answered zero f g e = ap (λ (o : Outcome Feature). o.value) e
answered (suc n) f g e = absurd (omega (arith, ap (λ (o : Outcome Feature). o.number) e))

module _ (at : ℕ) (c : FeatureCells) (r : Result Feature Refusal) (e : feature_outcome r ≡ feature_read at c) where
  pub answer-number : number_in r ≡ refusal_of c
  answer-number = sym (left r) ∙ ap (λ (o : Outcome Feature). o.number) e ∙ right (refusal_of c) (feature_from at c)

  pub answer-feature : {f : Feature} → r ≡ Ok f → f ≡ feature_from at c
  answer-feature {f} k = answered (refusal_of c) f (feature_from at c) (sym (ap feature_outcome k) ∙ e)
