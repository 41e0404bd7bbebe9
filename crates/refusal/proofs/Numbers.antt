-- Two refusals of one number are one refusal, so that an outcome's number decides the answer's refusal. Assumes nothing.
use mathlib.Core.Path.{◌≡◌, refl, sym, ap, ap₂, ◌∙◌}
use mathlib.Core.List.{[], ◌∷◌}
use Prim.Native.Nat.{ℕ}
use lib.ListN.{get_or}
use native.Mathlib.Omega.{arith}
use Rattle.refusal.specs.Refusal.{Outcome, Placed, number_of, outcome_of, placed_of}
use Rattle.refusal.specs.declared.Refusal.{Refusal}
use Rattle.refusal.specs.declared.RefusedAt.{RefusedAt}
use Rattle.std.specs.Prelude.{Result, Ok, Err}
use Rattle.refusal.specs.declared.Refusal.TheVariants.{TreeLength, Magic, TreeSize, Version, BlockBounds, Token, Name, TooMany, Repeated, NotFound, PropertyForm, OutOfRange, UnknownPhandle, RecordForm, Level, Position, FeatureEnabled, BufferLength, NotAscending, UnitText}

-- the refusal of a number: some refusal where the table has none
abbrev refusal_of : ℕ → Refusal
refusal_of n =
    get_or
    (TreeLength
    ∷ TreeLength
    ∷ Magic
    ∷ TreeSize
    ∷ Version
    ∷ BlockBounds
    ∷ Token
    ∷ Name
    ∷ TooMany
    ∷ Repeated
    ∷ NotFound
    ∷ PropertyForm
    ∷ OutOfRange
    ∷ UnknownPhandle
    ∷ RecordForm
    ∷ Level
    ∷ Position
    ∷ FeatureEnabled
    ∷ BufferLength
    ∷ NotAscending
    ∷ UnitText
    ∷ [])
    n
    TreeLength

back : (r : Refusal) → refusal_of (number_of r) ≡ r
back TreeLength = refl
back Magic = refl
back TreeSize = refl
back Version = refl
back BlockBounds = refl
back Token = refl
back Name = refl
back TooMany = refl
back Repeated = refl
back NotFound = refl
back PropertyForm = refl
back OutOfRange = refl
back UnknownPhandle = refl
back RecordForm = refl
back Level = refl
back Position = refl
back FeatureEnabled = refl
back BufferLength = refl
back NotAscending = refl
back UnitText = refl

pub same_number : (a b : Refusal) → number_of a ≡ number_of b → a ≡ b
same_number a b e = sym (back a) ∙ ap refusal_of e ∙ back b

-- no refusal has the number 0
pub numbered : (r : Refusal) → number_of r ≡ 0 → ⊥
numbered TreeLength e = omega arith
numbered Magic e = omega arith
numbered TreeSize e = omega arith
numbered Version e = omega arith
numbered BlockBounds e = omega arith
numbered Token e = omega arith
numbered Name e = omega arith
numbered TooMany e = omega arith
numbered Repeated e = omega arith
numbered NotFound e = omega arith
numbered PropertyForm e = omega arith
numbered OutOfRange e = omega arith
numbered UnknownPhandle e = omega arith
numbered RecordForm e = omega arith
numbered Level e = omega arith
numbered Position e = omega arith
numbered FeatureEnabled e = omega arith
numbered BufferLength e = omega arith
numbered NotAscending e = omega arith
numbered UnitText e = omega arith

-- what a call answers is decided by its outcome's number and value, where a part of an answer decides the answer
module _ {A B : Type 0} (part : A → B) (zeros : B) (decides : (a b : A) → part a ≡ part b → a ≡ b) where
  pub same-outcome : (x y : Result A Refusal) → outcome_of part zeros x ≡ outcome_of part zeros y → x ≡ y
  same-outcome (Ok a) (Ok b) e = ap Ok (decides a b (ap (λ (o : Outcome B). o.value) e))
  same-outcome (Ok a) (Err s) e = absurd (numbered s (sym (ap (λ (o : Outcome B). o.number) e)))
  same-outcome (Err r) (Ok b) e = absurd (numbered r (ap (λ (o : Outcome B). o.number) e))
  same-outcome (Err r) (Err s) e = ap Err (same_number r s (ap (λ (o : Outcome B). o.number) e))

  -- the same with a place
  pub same-placed : (x y : Result A RefusedAt) → placed_of part zeros x ≡ placed_of part zeros y → x ≡ y
  same-placed (Ok a) (Ok b) e = ap Ok (decides a b (ap (λ (o : Placed B). o.value) e))
  same-placed (Ok a) (Err s) e = absurd (numbered s.refusal (sym (ap (λ (o : Placed B). o.number) e)))
  same-placed (Err r) (Ok b) e = absurd (numbered r.refusal (ap (λ (o : Placed B). o.number) e))
  same-placed (Err r) (Err s) e =
      let n = same_number r.refusal s.refusal (ap (λ (o : Placed B). o.number) e) in
      let l = ap (λ (o : Placed B). o.place) e in
      λ i. Err (record { refusal = n i; place = l i })
