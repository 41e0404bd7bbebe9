-- Where a refusal comes from (document 01, "The walk": "The first faulty token gives the refusal, at its offset").
use Rattle.std.specs.Prelude.{ℕ, ◌≤◌, ◌≡◌, List, ◌∷◌, ◌++◌, length}
use Rattle.refusal.specs.Refusal.{Placed, placed, refuse_at, fault as refusal_at}
use Rattle.header.specs.Header.{header, blocks_of, no_blocks}
use Rattle.tokens.specs.Tokens.{Token, begin_node, end_node, property, nop, end, fault}
use Rattle.walk.specs.Walk.{State, before_root, accepted, refuse_here, step, walk, tree_tokens}
use Rattle.walk.specs.Checked.{layout_of, no_layout}
use Rattle.walk.specs.declared.Layout.{Layout}

abbrev pub offset_of : Token → ℕ
offset_of (begin_node at name) = at
offset_of (end_node at) = at
offset_of (property at name value) = at
offset_of (nop at) = at
offset_of (end at) = at
offset_of (fault at) = at

-- the walk passes some tokens, and the next one refuses, at its offset, with a number of the walk's: 6, 7, 8 or 9
pub record FirstFault (e : ℕ) (q : State) (all : List Token) (number place : ℕ) : Type 0 where
  pub passed : List Token
  pub faulty : Token
  pub others : List Token
  pub split : all ≡ passed ++ faulty ∷ others
  pub there : State
  pub goes_on : (ts : List Token) → walk e q (passed ++ ts) ≡ walk e there ts
  pub refuses : step e there faulty ≡ refuse_here number place
  pub at_token : place ≡ offset_of faulty
  pub least : 6 ≤ number
  pub most : number ≤ 9

-- the tokens of the whole structure block
abbrev pub all_tokens : List ℕ → List Token
all_tokens tree = tree_tokens tree (blocks_of tree) (blocks_of tree).start

-- a check ends with the layout of an accepted tree, or with a numbered refusal of the header or of the walk
pub data CheckEnds (tree : List ℕ) : Placed Layout → Type 0 where
  answered : header tree ≡ placed (blocks_of tree) → walk (blocks_of tree).end before_root (all_tokens tree) ≡ accepted
      → CheckEnds tree (placed (layout_of tree (blocks_of tree)))
  header_refused : {number place : ℕ} → header tree ≡ refuse_at no_blocks (refusal_at number place) → 1 ≤ number → number ≤ 5 → place ≤ length tree
      → CheckEnds tree (refuse_at no_layout (refusal_at number place))
  walk_refused : {number place : ℕ} → header tree ≡ placed (blocks_of tree) → FirstFault (blocks_of tree).end before_root (all_tokens tree) number place
      → CheckEnds tree (refuse_at no_layout (refusal_at number place))
