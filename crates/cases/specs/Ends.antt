-- How a call ends (demand 1; document 01, "Refusal numbers").
use Rattle.std.specs.Prelude.{ℕ, ◌≤◌, ◌≡◌, Bool, true, false, ◌||◌, List, [], ◌∷◌, eqb, length}
use Rattle.refusal.specs.Refusal.{Outcome, answer, refuse, fault, Placed, placed, refuse_at}

-- a number is one of some
abbrev pub is_one_of : List ℕ → ℕ → Bool
is_one_of [] n = false
is_one_of (m ∷ ms) n = eqb n m || is_one_of ms n

-- "ends with an answer or a numbered refusal from document 01", where the numbers are those that it lists for the call; "Other refusals
-- return the number and, beside it, zeros"
pub data Ends {A : Type 0} (numbers : List ℕ) (zeros : A) : Outcome A → Type 0 where
  answered : (value : A) → Ends numbers zeros (answer value)
  refused : (number : ℕ) → is_one_of numbers number ≡ true → Ends numbers zeros (refuse zeros number)

-- the same of a tree: the numbers are 1 to a highest one, and there is a "place (a byte offset in the tree)"
pub data PlacedEnds {A : Type 0} (tree : List ℕ) (highest : ℕ) (zeros : A) : Placed A → Type 0 where
  answered_at : (value : A) → PlacedEnds tree highest zeros (placed value)
  refused_at : (number place : ℕ) → 1 ≤ number → number ≤ highest → place ≤ length tree
      → PlacedEnds tree highest zeros (refuse_at zeros (fault number place))

-- the same of a block of tokens: the numbers are those that document 01 lists for the call, at any place
pub data EndsAt {A : Type 0} (numbers : List ℕ) (zeros : A) : Placed A → Type 0 where
  answered_there : (value : A) → EndsAt numbers zeros (placed value)
  refused_there : (number place : ℕ) → is_one_of numbers number ≡ true → EndsAt numbers zeros (refuse_at zeros (fault number place))

-- "A refusal changes no byte of the caller's buffers": what a lent buffer holds at entry and at exit
abbrev pub Keeps : {A : Type 0} → Outcome A → List ℕ → List ℕ → Type 0
Keeps o entry exit = (o.number ≡ 0 → ⊥) → exit ≡ entry
