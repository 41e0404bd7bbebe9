-- Checks in order: the first that does not hold decides.
use Rattle.std.specs.Prelude.{ℕ, Bool, true, false, List, [], ◌∷◌}

-- a test, and the fault that it finds where it does not hold
pub record Check (F : Type 0) : Type 0 where
  pub holds : Bool
  pub fault : F

abbrev pub check : {F : Type 0} → Bool → F → Check F
check b f = record { holds = b; fault = f }

-- the refusal of the first check that does not hold; the answer where all hold
unfoldable pub first_fault : {F A : Type 0} → (F → A) → List (Check F) → A → A
first_fault refuse [] a = a
first_fault refuse (c ∷ cs) a = elim c.holds [ true ↦ first_fault refuse cs a | false ↦ refuse c.fault ]

-- the number of the first check that does not hold; 0 where all hold
unfoldable pub fault_of : List (Check ℕ) → ℕ
fault_of cs = first_fault (λ (n : ℕ). n) cs 0
