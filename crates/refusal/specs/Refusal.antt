-- The table of refusals (document 01, "Refusal numbers"), and what a call answers beside the number.
use Rattle.std.specs.Prelude.{ℕ, Result, Ok, Err, Option, None, Some}
use Rattle.refusal.specs.declared.Refusal.{Refusal}
use Rattle.refusal.specs.declared.RefusedAt.{RefusedAt}
use Rattle.refusal.specs.declared.Refusal.TheVariants.{TreeLength, Magic, TreeSize, Version, BlockBounds, Token, Name, TooMany, Repeated, NotFound, PropertyForm, OutOfRange, UnknownPhandle, RecordForm, Level, Position, FeatureEnabled, BufferLength, NotAscending, UnitText}

-- each refusal's number in document 01's table
abbrev pub number_of : Refusal → ℕ
number_of TreeLength = 1
number_of Magic = 2
number_of TreeSize = 3
number_of Version = 4
number_of BlockBounds = 5
number_of Token = 6
number_of Name = 7
number_of TooMany = 8
number_of Repeated = 9
number_of NotFound = 10
number_of PropertyForm = 11
number_of OutOfRange = 12
number_of UnknownPhandle = 13
number_of RecordForm = 14
number_of Level = 15
number_of Position = 16
number_of FeatureEnabled = 17
number_of BufferLength = 18
number_of NotAscending = 19
number_of UnitText = 20

-- what a call without a place answers: a number of the table, and a value
pub record Outcome (A : Type 0) : Type 0 where
  pub number : ℕ
  pub value : A

-- an answer: no refusal, and the value
abbrev pub answer : {A : Type 0} → A → Outcome A
answer v = record { number = 0; value = v }

-- "Other refusals return the number and, beside it, zeros."
abbrev pub refuse : {A : Type 0} → A → ℕ → Outcome A
refuse zeros n = record { number = n; value = zeros }

-- the number of an outcome: 0 is no refusal
abbrev pub number_in : {A : Type 0} → Result A Refusal → ℕ
number_in (Ok a) = 0
number_in (Err e) = number_of e

-- what a call without a place answers, by its outcome: a part of the answer, or zeros
abbrev pub outcome_of : {A B : Type 0} → (A → B) → B → Result A Refusal → Outcome B
outcome_of part zeros (Ok a) = answer (part a)
outcome_of part zeros (Err e) = refuse zeros (number_of e)

-- what is found at a place of a tree: a number of the table, and a byte offset
pub record Fault : Type 0 where
  pub number : ℕ
  pub place : ℕ

abbrev pub fault : ℕ → ℕ → Fault
fault n p = record { number = n; place = p }

-- what a call with a place answers: a number of the table, a place, and a value
pub record Placed (A : Type 0) : Type 0 where
  pub number : ℕ
  pub place : ℕ
  pub value : A

-- an answer has place 0
abbrev pub placed : {A : Type 0} → A → Placed A
placed v = record { number = 0; place = 0; value = v }

-- "A refused read returns number, place .. and a record with no features"
abbrev pub refuse_at : {A : Type 0} → A → Fault → Placed A
refuse_at zeros f = record { number = f.number; place = f.place; value = zeros }

-- a refusal at a place
abbrev pub refused_at : Refusal → ℕ → RefusedAt
refused_at r p = record { refusal = r; place = p }

-- the same by its number
abbrev pub fault_of_refused : RefusedAt → Fault
fault_of_refused e = fault (number_of e.refusal) e.place

-- what a call with a place answers, by its outcome: a part of the answer, or zeros
abbrev pub placed_of : {A B : Type 0} → (A → B) → B → Result A RefusedAt → Placed B
placed_of part zeros (Ok a) = placed (part a)
placed_of part zeros (Err e) = refuse_at zeros (fault_of_refused e)
