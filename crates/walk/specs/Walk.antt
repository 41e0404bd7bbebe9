-- The walk over the tokens of a tree (document 01, "The walk"): a fold with a small state.
use Rattle.std.specs.Prelude.{ℕ, ◌+◌, ◌-◌, List, [], ◌∷◌, ◌++◌, ltb, eqb}
use Rattle.strings.specs.Strings.{Text}
use Rattle.names.specs.Names.{is_node_name, is_property_name, is_root_name}
use Rattle.tokens.specs.Steps.{pick}
use Rattle.tokens.specs.Tokens.{Token, begin_node, end_node, property, nop, end, fault, tokens}
use Rattle.properties.specs.Properties.{name_at, among}
use Rattle.header.specs.declared.Blocks.{Blocks}

-- "nesting is followed to sixteen levels and no deeper"
abbrev pub most_levels : ℕ
most_levels = 16

-- where the walk stands; "The root is level 1"
pub data State : Type 0 where
  before_root : State
  in_properties : (level : ℕ) (names : List Text) → State  -- in a node, before its child nodes; the names of its properties so far
  in_children : (level : ℕ) → State  -- in a node, after a child node
  after_root : State

pub data Verdict : Type 0 where
  accepted : Verdict
  refused : (number place : ℕ) → Verdict

-- what a token does: the walk goes on in a state, or it has its verdict
pub data Next : Type 0 where
  go_on : State → Next
  stop : Verdict → Next

abbrev pub refuse_here : ℕ → ℕ → Next
refuse_here number at = stop (refused number at)

-- the node of a level has ended
abbrev pub parent_of : ℕ → State
parent_of level = pick (ltb 1 level) (in_children (level - 1)) after_root

-- a child node begins in a node of a level; "at one token 6 comes before 7, 8, 9"
abbrev pub enter_child : ℕ → ℕ → Text → Next
enter_child level at name =
    pick (is_node_name name) (pick (ltb level most_levels) (go_on (in_properties (level + 1) [])) (refuse_here 8 at)) (refuse_here 7 at)

-- "A property name repeated in one node is 9"
abbrev pub take_property : ℕ → List Text → ℕ → Text → Next
take_property level names at name =
    pick (is_property_name name) (pick (among name names) (refuse_here 9 at) (go_on (in_properties level (names ++ name ∷ [])))) (refuse_here 7 at)

-- "One root, with an empty name; properties come before child nodes; the end token is the last cell of the block", which ends at e;
-- "4 NOP (skipped)"; all else is "out of place"
unfoldable pub step : ℕ → State → Token → Next
step e q (nop at) = go_on q
step e before_root (begin_node at name) = pick (is_root_name name) (go_on (in_properties 1 [])) (refuse_here 7 at)
step e before_root (end_node at) = refuse_here 6 at
step e before_root (property at name value) = refuse_here 6 at
step e before_root (end at) = refuse_here 6 at
step e before_root (fault at) = refuse_here 6 at
step e (in_properties level names) (begin_node at name) = enter_child level at name
step e (in_properties level names) (end_node at) = go_on (parent_of level)
step e (in_properties level names) (property at name value) = take_property level names at name
step e (in_properties level names) (end at) = refuse_here 6 at
step e (in_properties level names) (fault at) = refuse_here 6 at
step e (in_children level) (begin_node at name) = enter_child level at name
step e (in_children level) (end_node at) = go_on (parent_of level)
step e (in_children level) (property at name value) = refuse_here 6 at
step e (in_children level) (end at) = refuse_here 6 at
step e (in_children level) (fault at) = refuse_here 6 at
step e after_root (begin_node at name) = refuse_here 6 at
step e after_root (end_node at) = refuse_here 6 at
step e after_root (property at name value) = refuse_here 6 at
step e after_root (end at) = pick (eqb (at + 4) e) (stop accepted) (refuse_here 6 at)
step e after_root (fault at) = refuse_here 6 at

-- "The first faulty token gives the refusal, at its offset"
unfoldable pub walk : ℕ → State → List Token → Verdict
walk e q [] = refused 6 e
walk e q (t ∷ ts) = elim (step e q t) [ go_on r ↦ walk e r ts | stop v ↦ v ]

-- the name at an offset of a tree's strings block
abbrev pub name_in : List ℕ → Blocks → ℕ → Text
name_in tree b = name_at tree b.strings b.limit

-- the tokens of a tree, from a place of its structure block on
abbrev pub tree_tokens : List ℕ → Blocks → ℕ → List Token
tree_tokens tree b at = tokens tree b.end (name_in tree b) at
