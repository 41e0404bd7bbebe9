-- The containers of a tree: the nodes of that name, at any level (document 01, "The feature record").
use Rattle.std.specs.Prelude.{ℕ, min, true, false, List, [], ◌∷◌, length, get_or}
use Rattle.characters.specs.Characters.{bytes}
use Rattle.strings.specs.Strings.{ended}
use Rattle.names.specs.Names.{same_text}
use Rattle.tokens.specs.Tokens.{Token, begin_node, end_node, property, nop, end, fault}
use Rattle.walk.specs.declared.Containers.{Containers}

-- "found by its exact name"
abbrev pub container_name : List ℕ
container_name = bytes "ibm,powerpc-cpu-features"

-- the offsets of their begin tokens, in tree order
unfoldable pub container_offsets : List Token → List ℕ
container_offsets [] = []
container_offsets (begin_node at name ∷ ts) =
    elim (same_text name (ended container_name)) [ true ↦ at ∷ container_offsets ts | false ↦ container_offsets ts ]
container_offsets (end_node at ∷ ts) = container_offsets ts
container_offsets (property at name value ∷ ts) = container_offsets ts
container_offsets (nop at ∷ ts) = container_offsets ts
container_offsets (end at ∷ ts) = container_offsets ts
container_offsets (fault at ∷ ts) = container_offsets ts

-- the first two, and how many there are, up to two; zeros where there is none
unfoldable pub first_two : List ℕ → Containers
first_two offsets = record { count = min 2 (length offsets); first = get_or offsets 0 0; second = get_or offsets 1 0 }
