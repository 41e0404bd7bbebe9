-- The properties of one node or block (document 01, "The walk": "A property name repeated in one node is 9").
use Rattle.std.specs.Prelude.{ℕ, ◌+◌, Bool, false, not, List, [], ◌∷◌, ◌++◌, ltb, Result}
use Rattle.refusal.specs.Refusal.{Fault, Placed, placed, refuse_at, placed_of}
use Rattle.refusal.specs.Refusal as refusal
use Rattle.refusal.specs.declared.RefusedAt.{RefusedAt}
use Rattle.refusal.specs.Checks.{Check, check, first_fault}
use Rattle.strings.specs.Strings.{Text, text_at}
use Rattle.names.specs.Names.{either, is_property_name, same_text}
use Rattle.tokens.specs.Steps.{pick}
use Rattle.tokens.specs.Tokens.{Token, begin_node, end_node, property, nop, end, fault}

-- the name at an offset of a strings block that stands from `from` to `limit` in some bytes
unfoldable pub name_at : List ℕ → ℕ → ℕ → ℕ → Text
name_at bytes from limit offset = text_at bytes (from + offset) limit

-- a name is among others, by its characters
unfoldable pub among : Text → List Text → Bool
among n [] = false
among n (m ∷ ms) = either (same_text m n) (among n ms)

-- one of the properties that some tokens begin with, before the place t, has a name
unfoldable pub given_before : ℕ → Text → List Token → Bool
given_before t n [] = false
given_before t n (begin_node at name ∷ ts) = false
given_before t n (end_node at ∷ ts) = false
given_before t n (property at name value ∷ ts) = pick (ltb at t) (either (same_text name n) (given_before t n ts)) false
given_before t n (nop at ∷ ts) = pick (ltb at t) (given_before t n ts) false
given_before t n (end at ∷ ts) = false
given_before t n (fault at ∷ ts) = false

-- the fault of a property of that name, 7 before 9; 0 is none
unfoldable pub name_fault : Text → Bool → ℕ
name_fault n given = pick (is_property_name n) (pick given 9 0) 7

-- a property at a place, behind others of its node with the names `seen`: "name not as below" is 7, "A property name repeated in one
-- node is 9"
abbrev pub property_checks : List Text → ℕ → Text → List (Check Fault)
property_checks seen at name = check (is_property_name name) (refusal.fault 7 at) ∷ check (not (among name seen)) (refusal.fault 9 at) ∷ []

-- the properties that some tokens begin with, behind those with the names `seen`: the place of the first token that is neither a property
-- nor a NOP, or the first fault among them; the block of tokens ends at `stop`, and nothing is left there
unfoldable pub read_properties : ℕ → List Text → List Token → Placed ℕ
read_properties stop seen [] = placed stop
read_properties stop seen (property at name value ∷ ts) =
    first_fault (refuse_at 0) (property_checks seen at name) (read_properties stop (seen ++ name ∷ []) ts)
read_properties stop seen (nop at ∷ ts) = read_properties stop seen ts
read_properties stop seen (begin_node at name ∷ ts) = placed at
read_properties stop seen (end_node at ∷ ts) = placed at
read_properties stop seen (end at ∷ ts) = placed at
read_properties stop seen (fault at ∷ ts) = placed at

-- what a call answers: the place of the token behind the properties
abbrev pub properties_outcome : Result ℕ RefusedAt → Placed ℕ
properties_outcome r = placed_of (λ (n : ℕ). n) 0 r
