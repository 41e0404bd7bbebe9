-- The nodes of a tree, in a list of its tokens. NOPs are skipped.
use Rattle.std.specs.Prelude.{ℕ, zero, suc, List, [], ◌∷◌}
use Rattle.strings.specs.Strings.{Text, ended, unended}
use Rattle.names.specs.Names.{same_text}
use Rattle.tokens.specs.Steps.{pick}
use Rattle.tokens.specs.Tokens.{Token, begin_node, end_node, property, nop, end, fault}

-- a node: its begin token's offset, its name, and the tokens behind its begin token
pub record Node : Type 0 where
  pub at : ℕ
  pub name : Text
  pub behind : List Token

abbrev pub node : ℕ → Text → List Token → Node
node at name behind = record { at = at; name = name; behind = behind }

-- the node at an index of a list; where there is none, one without anything
unfoldable pub node_at : List Node → ℕ → Node
node_at [] i = node 0 unended []
node_at (n ∷ ns) zero = n
node_at (n ∷ ns) (suc i) = node_at ns i

-- the nodes of a name, at any level, in tree order
unfoldable pub nodes_named : List ℕ → List Token → List Node
nodes_named n [] = []
nodes_named n (begin_node at name ∷ ts) = pick (same_text name (ended n)) (node at name ts ∷ nodes_named n ts) (nodes_named n ts)
nodes_named n (end_node at ∷ ts) = nodes_named n ts
nodes_named n (property at name value ∷ ts) = nodes_named n ts
nodes_named n (nop at ∷ ts) = nodes_named n ts
nodes_named n (end at ∷ ts) = nodes_named n ts
nodes_named n (fault at ∷ ts) = nodes_named n ts

-- "direct children, in tree order": the child nodes of a node that the tokens are inside, in as many nodes of its own as the first
-- argument says; they end at its end token
unfoldable pub children_at : ℕ → List Token → List Node
children_at depth [] = []
children_at zero (begin_node at name ∷ ts) = node at name ts ∷ children_at 1 ts
children_at (suc depth) (begin_node at name ∷ ts) = children_at (suc (suc depth)) ts
children_at zero (end_node at ∷ ts) = []
children_at (suc depth) (end_node at ∷ ts) = children_at depth ts
children_at depth (property at name value ∷ ts) = children_at depth ts
children_at depth (nop at ∷ ts) = children_at depth ts
children_at depth (end at ∷ ts) = []
children_at depth (fault at ∷ ts) = []

abbrev pub children : Node → List Node
children n = children_at 0 n.behind
