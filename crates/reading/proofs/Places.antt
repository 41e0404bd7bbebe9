-- The nodes of a tree begin within its structure block. Assumes nothing.
use mathlib.Core.Bool.{Bool, true, false}
use mathlib.Core.List.{List, [], ◌∷◌}
use Prim.Native.Nat.{ℕ, zero, suc, ◌≤◌}
use native.Mathlib.Omega.{arith}
use Rattle.strings.specs.Strings.{Text, ended}
use Rattle.names.specs.Names.{same_text}
use Rattle.tokens.specs.Steps.{pick}
use Rattle.tokens.specs.Tokens.{Token, begin_node, end_node, property, nop, end, fault, tokens}
use Rattle.walk.specs.Faults.{offset_of}
use Rattle.walk.proofs.Complete.{tokens-induct}
use Rattle.nodes.specs.Nodes.{Node, node, node_at, nodes_named, children_at}

module _ (limit : ℕ) where
  -- tokens, and a node with the tokens behind its begin token
  abbrev Tokens : List Token → Type 0
  Tokens [] = Unit {0}
  Tokens (t ∷ ts) = (offset_of t ≤ limit) × Tokens ts

  abbrev pub Within : Node → Type 0
  Within n = (n.at ≤ limit) × Tokens n.behind

  abbrev pub AllWithin : List Node → Type 0
  AllWithin [] = Unit {0}
  AllWithin (n ∷ ns) = Within n × AllWithin ns

  pub node-within : (ns : List Node) (i : ℕ) → AllWithin ns → Within (node_at ns i)
  unfolding node_at
  node-within [] i h = (omega arith, tt)
  node-within (n ∷ ns) zero h = h.0
  node-within (n ∷ ns) (suc i) h = node-within ns i h.1

  named-within : (n : List ℕ) (ts : List Token) → Tokens ts → AllWithin (nodes_named n ts)
  unfolding nodes_named
  named-within n [] h = tt
  named-within n (begin_node at name ∷ ts) h = go (same_text name (ended n)) (named-within n ts h.1)
    where
      go : (b : Bool) → AllWithin (nodes_named n ts) → AllWithin (pick b (node at name ts ∷ nodes_named n ts) (nodes_named n ts))
      go true k = ((h.0, h.1), k)
      go false k = k
  named-within n (end_node at ∷ ts) h = named-within n ts h.1
  named-within n (property at name value ∷ ts) h = named-within n ts h.1
  named-within n (nop at ∷ ts) h = named-within n ts h.1
  named-within n (end at ∷ ts) h = named-within n ts h.1
  named-within n (fault at ∷ ts) h = named-within n ts h.1

  pub children-within : (depth : ℕ) (ts : List Token) → Tokens ts → AllWithin (children_at depth ts)
  unfolding children_at
  children-within depth [] h = tt
  children-within zero (begin_node at name ∷ ts) h = ((h.0, h.1), children-within 1 ts h.1)
  children-within (suc depth) (begin_node at name ∷ ts) h = children-within (suc (suc depth)) ts h.1
  children-within zero (end_node at ∷ ts) h = tt
  children-within (suc depth) (end_node at ∷ ts) h = children-within depth ts h.1
  children-within depth (property at name value ∷ ts) h = children-within depth ts h.1
  children-within depth (nop at ∷ ts) h = children-within depth ts h.1
  children-within depth (end at ∷ ts) h = tt
  children-within depth (fault at ∷ ts) h = tt

  -- those of a name, in the tokens of bytes
  pub containers-within : (n : List ℕ) (s : List ℕ) (names : ℕ → Text) (at : ℕ) → AllWithin (nodes_named n (tokens s limit names at))
  containers-within n s names at =
      named-within n (tokens s limit names at) (tokens-induct s limit names Tokens (λ t f o. (o, tt)) (λ t ts f o r. (o, r)) at)
