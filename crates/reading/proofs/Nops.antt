-- NOP tokens change neither the nodes of a tree nor their values, but for the NOPs behind a node's begin token. Assumes nothing.
use mathlib.Core.Path.{◌≡◌, refl, ap}
use mathlib.Core.Bool.{Bool, true, false}
use mathlib.Core.List.{List, [], ◌∷◌, map}
use Prim.Native.Nat.{ℕ, zero, suc}
use Rattle.strings.specs.Strings.{ended}
use Rattle.names.specs.Names.{same_text}
use Rattle.tokens.specs.Steps.{pick}
use Rattle.tokens.specs.Tokens.{Token, begin_node, end_node, property, nop, end, fault}
use Rattle.walk.specs.Grammar.{without_nop_tokens}
use Rattle.nodes.specs.Nodes.{Node, node, nodes_named, children_at}
use Rattle.nodes.specs.Values.{value, value_in}

-- a node without the NOPs behind its begin token
abbrev pub without_nops : Node → Node
without_nops n = node n.at n.name (without_nop_tokens n.behind)

pub value-nops : (n : List ℕ) (ts : List Token) → value_in n (without_nop_tokens ts) ≡ value_in n ts
unfolding without_nop_tokens value_in
value-nops n [] = refl
value-nops n (begin_node at name ∷ ts) = refl
value-nops n (end_node at ∷ ts) = refl
value-nops n (property at name bytes ∷ ts) = ap (pick (same_text name (ended n)) (value bytes)) (value-nops n ts)
value-nops n (nop at ∷ ts) = value-nops n ts
value-nops n (end at ∷ ts) = refl
value-nops n (fault at ∷ ts) = refl

pub children-nops : (depth : ℕ) (ts : List Token) → children_at depth (without_nop_tokens ts) ≡ map without_nops (children_at depth ts)
unfolding without_nop_tokens children_at
children-nops depth [] = refl
children-nops zero (begin_node at name ∷ ts) = ap (λ (ns : List Node). node at name (without_nop_tokens ts) ∷ ns) (children-nops 1 ts)
children-nops (suc depth) (begin_node at name ∷ ts) = children-nops (suc (suc depth)) ts
children-nops zero (end_node at ∷ ts) = refl
children-nops (suc depth) (end_node at ∷ ts) = children-nops depth ts
children-nops depth (property at name bytes ∷ ts) = children-nops depth ts
children-nops depth (nop at ∷ ts) = children-nops depth ts
children-nops depth (end at ∷ ts) = refl
children-nops depth (fault at ∷ ts) = refl

pub named-nops : (n : List ℕ) (ts : List Token) → nodes_named n (without_nop_tokens ts) ≡ map without_nops (nodes_named n ts)
unfolding without_nop_tokens nodes_named
named-nops n [] = refl
named-nops n (begin_node at name ∷ ts) = go (same_text name (ended n)) (named-nops n ts)
  where
    go : (b : Bool) → nodes_named n (without_nop_tokens ts) ≡ map without_nops (nodes_named n ts)
        → pick b (node at name (without_nop_tokens ts) ∷ nodes_named n (without_nop_tokens ts)) (nodes_named n (without_nop_tokens ts))
        ≡ map without_nops (pick b (node at name ts ∷ nodes_named n ts) (nodes_named n ts))
    go true h = ap (λ (ns : List Node). node at name (without_nop_tokens ts) ∷ ns) h
    go false h = h
named-nops n (end_node at ∷ ts) = named-nops n ts
named-nops n (property at name bytes ∷ ts) = named-nops n ts
named-nops n (nop at ∷ ts) = named-nops n ts
named-nops n (end at ∷ ts) = named-nops n ts
named-nops n (fault at ∷ ts) = named-nops n ts
