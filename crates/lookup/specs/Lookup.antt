-- Looking a property up in a CPU node's block of properties, then in that of `/cpus` (document 01, "CPU properties and unit text").
use Rattle.std.specs.Prelude.{ℕ, zero, suc, ◌+◌, ◌-◌, true, false, List, [], ◌∷◌, ◌++◌, ltb, length, take, drop, Option, Some, None, Result}
use Rattle.strings.specs.Strings.{Text, ended}
use Rattle.names.specs.Names.{is_property_name, same_text}
use Rattle.refusal.specs.Refusal.{Outcome, number_of, outcome_of}
use Rattle.refusal.specs.declared.Refusal.{Refusal}
use Rattle.tokens.specs.declared.Step.TheVariants.{BeginNode, EndNode, Property, Nop, End, Fault}
use Rattle.tokens.specs.Steps.{pick, step_at}
use Rattle.properties.specs.Properties.{name_at, among}
use Rattle.lookup.specs.declared.Found.{Found}
use Rattle.lookup.specs.declared.Found.TheVariants.{InCpu, InParent}

-- a property of a block: its name, and where it begins and its value ends
pub record Held : Type 0 where
  pub name : Text
  pub from : ℕ
  pub to : ℕ

-- a block that reads as properties, or the number of its first fault
pub data Block : Type 0 where
  properties : (held : List Held) → Block
  refused : (number : ℕ) → Block

abbrev pub and_then : Held → Block → Block
and_then h (properties hs) = properties (h ∷ hs)
and_then h (refused n) = refused n

-- "property and NOP tokens, whole and padded": the properties of a block from a place on, where those before it have the names `seen`;
-- other tokens are 6, and at one token 6 comes before 7 and 9. The first argument bounds how many there are.
unfoldable pub block_from : ℕ → List ℕ → List ℕ → List Text → ℕ → Block
block_from zero block strings seen at = properties []
block_from (suc most) block strings seen at =
    elim (ltb at (length block)) [
      | false ↦ properties []
      | true ↦ elim (step_at block (length block) at) [
        | Property t value size offset next ↦
            let n = name_at strings 0 (length strings) offset in
            let rest = block_from most block strings (seen ++ n ∷ []) next.at in
            pick (is_property_name n)
            (pick (among n seen) (refused 9) (and_then (record { name = n; from = t; to = value + size }) rest))
            (refused 7)
        | Nop t next ↦ block_from most block strings seen next.at
        | BeginNode t name ↦ refused 6
        | EndNode t next ↦ refused 6
        | End t ↦ refused 6
        | Fault t ↦ refused 6
      ]
    ]

-- each token takes four bytes or more, so this bound never shows
unfoldable pub block_of : List ℕ → List ℕ → Block
block_of block strings = block_from (length block) block strings [] 0

-- the property of a name, by its characters
unfoldable pub held_as : List ℕ → List Held → List Held
held_as name [] = []
held_as name (h ∷ hs) = elim (same_text h.name (ended name)) [ true ↦ h ∷ [] | false ↦ held_as name hs ]

-- where it is: "in a CPU node's block .., then in that of `/cpus`"; nowhere "when neither has it or either block doesn't read as
-- properties"
abbrev pub or_parent : List ℕ → List Held → List Held → Option Found
or_parent name (h ∷ hs) qs = Some (InCpu h.from h.to)
or_parent name [] (q ∷ qs) = Some (InParent q.from q.to)
or_parent name [] [] = None

abbrev pub in_either : List ℕ → Block → Block → Option Found
in_either name (properties ps) (properties qs) = or_parent name (held_as name ps) (held_as name qs)
in_either name (properties ps) (refused n) = None
in_either name (refused n) b = None

unfoldable pub lookup : List ℕ → List ℕ → List ℕ → List ℕ → Option Found
lookup cpu parent strings name = in_either name (block_of cpu strings) (block_of parent strings)

-- "0 when it is found, else the reason: the walk's 6, 7 or 9, the CPU block first, then 10"
abbrev pub not_found : Option Found → ℕ
not_found (Some f) = 0
not_found None = 10

abbrev pub reason_of : Option Found → Block → Block → ℕ
reason_of f (refused n) b = n
reason_of f (properties ps) (refused n) = n
reason_of f (properties ps) (properties qs) = not_found f

unfoldable pub reason : List ℕ → List ℕ → List ℕ → List ℕ → ℕ
reason cpu parent strings name = reason_of (lookup cpu parent strings name) (block_of cpu strings) (block_of parent strings)

-- the number of a reason; 0 where there is none
abbrev pub reason_number : Option Refusal → ℕ
reason_number (Some r) = number_of r
reason_number None = 0

-- both: the reason, and where it is
abbrev pub looked_up : List ℕ → List ℕ → List ℕ → List ℕ → Outcome (Option Found)
looked_up cpu parent strings name = record { number = reason cpu parent strings name; value = lookup cpu parent strings name }

-- what an answer says: the number of document 01, and where the property is
abbrev pub looked_outcome : Result Found Refusal → Outcome (Option Found)
looked_outcome r = outcome_of (λ (f : Found). Some f) None r

-- "the property record from its token to the value's last byte, as a part of the one block or of the other; the empty part" otherwise
unfoldable pub part_of : List ℕ → List ℕ → Option Found → List ℕ
part_of cpu parent (Some (InCpu from to)) = take (to - from) (drop from cpu)
part_of cpu parent (Some (InParent from to)) = take (to - from) (drop from parent)
part_of cpu parent None = []

-- a part's value comes after its token and two cells
unfoldable pub value_of : List ℕ → List ℕ
value_of part = drop 12 part
