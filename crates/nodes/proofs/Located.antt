-- Each node and each value of a tree's tokens stands where the offset of its token says. Assumes nothing.
use mathlib.Core.Path.{◌≡◌, refl, sym, ap, subst}
use mathlib.Core.Bool.{Bool, true, false}
use mathlib.Core.List.{List, [], ◌∷◌}
use Prim.Native.Nat.{ℕ, zero, suc, ◌+◌, ◌-◌, ◌<◌, ◌≤◌}
use native.Mathlib.Omega.{arith}
use lib.ListN.{length, take, drop}
use Rattle.cells.specs.Cells.{cell_at}
use Rattle.strings.specs.Strings.{Text, ended, unended, text_at}
use Rattle.header.specs.declared.Blocks.{Blocks}
use Rattle.names.specs.Names.{same_text}
use Rattle.tokens.specs.declared.Step.{Step}
use Rattle.tokens.specs.Steps.{pick, padded}
use Rattle.tokens.specs.Tokens.{Token, begin_node, end_node, property, nop, end, fault, after_name, after_begin}
use Rattle.tokens.proofs.TokenList.{tokens-step, follow, view, Is, begins, ends, holds, skips, stops, cut, unknown, none}
use Rattle.positions.proofs.BelowLaws.{no_way}
use Rattle.walk.specs.Walk.{name_in, tree_tokens}
use Rattle.nodes.specs.Nodes.{Node, node, node_at, nodes_named, children_at}
use Rattle.nodes.specs.Values.{value}
use Rattle.nodes.specs.Places.{next_behind}
use Rattle.nodes.specs.Parts.{Lies, Alike}
use Rattle.nodes.proofs.ValueLaws.{length_run}
use Rattle.nodes.proofs.MoveLaws.{alike-behind}

-- a node's begin token stands at its offset, its name behind it, and the tokens behind it follow its name there
pub record Located (tree : List ℕ) (b : Blocks) (n : Node) : Type 0 where
  pub place : n.at < b.end
  pub name : n.name ≡ text_at tree (n.at + 4) b.end
  pub like : Alike n.behind (tree_tokens tree b (next_behind (n.at + 4) b.end (text_at tree (n.at + 4) b.end)))

-- a run of bytes that lies in a tree
run_lies : (tree : List ℕ) (from size : ℕ) → from + size ≤ length tree
    → Lies tree (value (take size (drop from tree))) from (length (take size (drop from tree)))
run_lies tree from size h =
    let e = length_run tree from size h in
    record { bytes = ap (λ (k : ℕ). value (take k (drop from tree))) (sym e); within = omega arith }

-- a name that is the same as some characters ends, and so does that of each node of a name
text-ends : (name : List ℕ) (t : Text) → same_text t (ended name) ≡ true → (cs : List ℕ) × (t ≡ ended cs)
unfolding same_text
text-ends name (ended cs) e = (cs, refl)
text-ends name unended e = no_way false e refl

pub named-ends : (name : List ℕ) (ts : List Token) (i : ℕ) → i < length (nodes_named name ts)
    → (cs : List ℕ) × ((node_at (nodes_named name ts) i).name ≡ ended cs)
unfolding nodes_named node_at
named-ends name [] i l = absurd (omega arith)
named-ends name (begin_node at t ∷ ts) i l = go (same_text t (ended name)) refl i l (named-ends name ts)
  where
    go : (same : Bool) → same_text t (ended name) ≡ same → (i : ℕ) → i < length (pick same (node at t ts ∷ nodes_named name ts) (nodes_named name ts))
        → ((i : ℕ) → i < length (nodes_named name ts) → (cs : List ℕ) × ((node_at (nodes_named name ts) i).name ≡ ended cs))
        → (cs : List ℕ) × ((node_at (pick same (node at t ts ∷ nodes_named name ts) (nodes_named name ts)) i).name ≡ ended cs)
    go true e zero l f = text-ends name t e
    go true e (suc i) l f = f i (omega arith)
    go false e i l f = f i l
named-ends name (end_node at ∷ ts) i l = named-ends name ts i l
named-ends name (property at t bytes ∷ ts) i l = named-ends name ts i l
named-ends name (nop at ∷ ts) i l = named-ends name ts i l
named-ends name (end at ∷ ts) i l = named-ends name ts i l
named-ends name (fault at ∷ ts) i l = named-ends name ts i l

module _ (tree : List ℕ) (b : Blocks) where
  -- each begin token of a list, and each property's value where the blocks lie in the tree
  abbrev pub Stand : List Token → Type 0
  Stand [] = Unit {0}
  Stand (begin_node at name ∷ ts) = Located tree b (node at name ts) × Stand ts
  Stand (end_node at ∷ ts) = Stand ts
  Stand (property at name bytes ∷ ts) = (b.end ≤ length tree → Lies tree (value bytes) (at + 12) (length bytes)) × Stand ts
  Stand (nop at ∷ ts) = Stand ts
  Stand (end at ∷ ts) = Stand ts
  Stand (fault at ∷ ts) = Stand ts

  -- by the token at a place and the tokens further on
  by_token : (at : ℕ) → ((next : ℕ) → at < next → at < b.end → Stand (tree_tokens tree b next)) → {x : Step} → Is tree b.end at x
      → Stand (follow tree b.end (name_in tree b) (tree_tokens tree b) x)
  unfolding padded
  by_token at rest (begins r e) =
      (record { place = omega arith; name = refl; like = alike-behind tree b (at + 4) text }, behind text)
    where
      text : Text
      text = text_at tree (at + 4) b.end

      behind : (t : Text) → Stand (after_begin (tree_tokens tree b) (at + 4) t)
      behind (ended cs) = rest (after_name (at + 4) cs) (omega arith) (omega arith)
      behind unended = tt
  by_token at rest (ends r e) = rest (at + 4) (omega arith) (omega arith)
  by_token at rest (holds r e) =
      let size = cell_at tree (at + 4) in
      (λ h. run_lies tree (at + 12) size (omega arith), rest (at + 12 + padded size) (omega arith) (omega arith))
  by_token at rest (skips r e) = rest (at + 4) (omega arith) (omega arith)
  by_token at rest (stops r e) = tt
  by_token at rest (cut r e k) = tt
  by_token at rest (unknown r n1 n2 n3 n4 n9) = tt
  by_token at rest (none r) = tt

  by-tokens : (n at : ℕ) → b.end - at < n → Stand (tree_tokens tree b at)
  by-tokens zero at h = absurd (omega arith)
  by-tokens (suc n) at h =
      subst Stand (sym (tokens-step tree b.end (name_in tree b) at refl))
      (by_token at (λ next k r. by-tokens n next (omega arith)) (view tree b.end at))

  pub tokens-stand : (at : ℕ) → Stand (tree_tokens tree b at)
  tokens-stand at = by-tokens (suc (b.end - at)) at (omega arith)

  abbrev AllLocated : List Node → Type 0
  AllLocated [] = Unit {0}
  AllLocated (n ∷ ns) = Located tree b n × AllLocated ns

  node-located : (ns : List Node) (i : ℕ) → i < length ns → AllLocated ns → Located tree b (node_at ns i)
  unfolding node_at
  node-located [] i l h = absurd (omega arith)
  node-located (n ∷ ns) zero l h = h.0
  node-located (n ∷ ns) (suc i) l h = node-located ns i (omega arith) h.1

  -- the nodes of a name
  all_named : (name : List ℕ) (ts : List Token) → Stand ts → AllLocated (nodes_named name ts)
  unfolding nodes_named
  all_named name [] h = tt
  all_named name (begin_node at t ∷ ts) h = go (same_text t (ended name)) (all_named name ts h.1)
    where
      go : (same : Bool) → AllLocated (nodes_named name ts) → AllLocated (pick same (node at t ts ∷ nodes_named name ts) (nodes_named name ts))
      go true k = (h.0, k)
      go false k = k
  all_named name (end_node at ∷ ts) h = all_named name ts h
  all_named name (property at t bytes ∷ ts) h = all_named name ts h.1
  all_named name (nop at ∷ ts) h = all_named name ts h
  all_named name (end at ∷ ts) h = all_named name ts h
  all_named name (fault at ∷ ts) h = all_named name ts h

  pub named-located : (name : List ℕ) (at i : ℕ) → i < length (nodes_named name (tree_tokens tree b at))
      → Located tree b (node_at (nodes_named name (tree_tokens tree b at)) i)
  named-located name at i l = node-located _ i l (all_named name (tree_tokens tree b at) (tokens-stand at))

  -- the children of a node
  all-children : (depth : ℕ) (ts : List Token) → Stand ts → AllLocated (children_at depth ts)
  unfolding children_at
  all-children depth [] h = tt
  all-children zero (begin_node at name ∷ ts) h = (h.0, all-children 1 ts h.1)
  all-children (suc depth) (begin_node at name ∷ ts) h = all-children (suc (suc depth)) ts h.1
  all-children zero (end_node at ∷ ts) h = tt
  all-children (suc depth) (end_node at ∷ ts) h = all-children depth ts h
  all-children depth (property at name bytes ∷ ts) h = all-children depth ts h.1
  all-children depth (nop at ∷ ts) h = all-children depth ts h
  all-children depth (end at ∷ ts) h = tt
  all-children depth (fault at ∷ ts) h = tt

  pub child-located : (at i : ℕ) → i < length (children_at 0 (tree_tokens tree b at)) → Located tree b (node_at (children_at 0 (tree_tokens tree b at)) i)
  child-located at i l = node-located _ i l (all-children 0 (tree_tokens tree b at) (tokens-stand at))
