-- The tokens of one tree, in the words of document 01, "The walk": a grammar. The walk accepts what it describes, and nothing else.
use Rattle.std.specs.Prelude.{ℕ, ◌+◌, ◌<◌, ◌≡◌, true, false, List, [], ◌∷◌, ◌++◌}
use Rattle.strings.specs.Strings.{Text}
use Rattle.names.specs.Names.{is_node_name, is_property_name, is_root_name}
use Rattle.tokens.specs.Tokens.{Token, begin_node, end_node, property, nop, end, fault}
use Rattle.properties.specs.Properties.{among}
use Rattle.walk.specs.Walk.{most_levels}

-- tokens without the NOP tokens among them: "4 NOP (skipped)"
unfoldable pub without_nop_tokens : List Token → List Token
without_nop_tokens [] = []
without_nop_tokens (begin_node at name ∷ ts) = begin_node at name ∷ without_nop_tokens ts
without_nop_tokens (end_node at ∷ ts) = end_node at ∷ without_nop_tokens ts
without_nop_tokens (property at name value ∷ ts) = property at name value ∷ without_nop_tokens ts
without_nop_tokens (nop at ∷ ts) = without_nop_tokens ts
without_nop_tokens (end at ∷ ts) = end at ∷ without_nop_tokens ts
without_nop_tokens (fault at ∷ ts) = fault at ∷ without_nop_tokens ts

-- Each relation below is between a list of tokens and what is left of it behind the part that it describes.

-- the properties of a node, after those of some names: each has a name as it should be, and none of the names before it
pub data Properties : List Text → List Token → List Token → Type 0 where
  none : {names : List Text} {rest : List Token} → Properties names rest rest
  one : {names : List Text} {at : ℕ} {name : Text} {value : List ℕ} {others rest : List Token}
      → is_property_name name ≡ true
      → among name names ≡ false
      → Properties (names ++ name ∷ []) others rest
      → Properties names (property at name value ∷ others) rest

-- the child nodes of a node of a level, and its end token. A child is a begin token with its name, its properties, and then its own
-- child nodes and end token, one level deeper: "properties come before child nodes".
pub data Nodes : ℕ → List Token → List Token → Type 0 where
  ends : {level at : ℕ} {rest : List Token} → Nodes level (end_node at ∷ rest) rest
  child : {level at : ℕ} {name : Text} {contents nodes others rest : List Token}
      → is_node_name name ≡ true
      → level < most_levels
      → Properties [] contents nodes
      → Nodes (level + 1) nodes others
      → Nodes level others rest
      → Nodes level (begin_node at name ∷ contents) rest

-- the whole of a block that ends at e: "One root, with an empty name", at level 1; "the end token is the last cell of the block"
pub data Tree (e : ℕ) : List Token → Type 0 where
  root : {at last : ℕ} {name : Text} {contents nodes : List Token}
      → is_root_name name ≡ true
      → Properties [] contents nodes
      → Nodes 1 nodes (end last ∷ [])
      → last + 4 ≡ e
      → Tree e (begin_node at name ∷ contents)
