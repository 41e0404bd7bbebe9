-- The containers of a reading are those that the walk notes. Assumes nothing.
use mathlib.Core.Path.{◌≡◌, refl, sym, ap}
use mathlib.Core.Bool.{Bool, true, false}
use mathlib.Core.List.{List, [], ◌∷◌, map}
use Prim.Native.Nat.{ℕ}
use native.Mathlib.Omega.{arith}
use Rattle.refusal.specs.Refusal.{Placed}
use Rattle.header.specs.Header.{blocks_of}
use Rattle.strings.specs.Strings.{ended}
use Rattle.names.specs.Names.{same_text}
use Rattle.tokens.specs.Steps.{pick}
use Rattle.tokens.specs.Tokens.{Token, begin_node, end_node, property, nop, end, fault}
use Rattle.walk.specs.Containers.{container_name, container_offsets, first_two}
use Rattle.walk.specs.Checked.{layout_of, check_tree}
use Rattle.walk.specs.Faults.{all_tokens, CheckEnds, answered, header_refused, walk_refused}
use Rattle.walk.specs.declared.Layout.{Layout}
use Rattle.walk.proofs.CheckEnds.{check-ends}
use Rattle.nodes.specs.Nodes.{Node, node, nodes_named}
use Rattle.reading.specs.Reading.{containers_of}

-- the offsets of some nodes' begin tokens
abbrev pub offsets : List Node → List ℕ
offsets ns = map (λ (n : Node). n.at) ns

pub containers-agree : (ts : List Token) → offsets (nodes_named container_name ts) ≡ container_offsets ts
unfolding nodes_named container_offsets
containers-agree [] = refl
containers-agree (begin_node at name ∷ ts) = go (same_text name (ended container_name)) (containers-agree ts)
  where
    go : (b : Bool) → offsets (nodes_named container_name ts) ≡ container_offsets ts
        → offsets (pick b (node at name ts ∷ nodes_named container_name ts) (nodes_named container_name ts))
        ≡ (elim b as (λ _. List ℕ) [ true ↦ at ∷ container_offsets ts | false ↦ container_offsets ts ])
    go true h = ap (λ (l : List ℕ). at ∷ l) h
    go false h = h
containers-agree (end_node at ∷ ts) = containers-agree ts
containers-agree (property at name value ∷ ts) = containers-agree ts
containers-agree (nop at ∷ ts) = containers-agree ts
containers-agree (end at ∷ ts) = containers-agree ts
containers-agree (fault at ∷ ts) = containers-agree ts

-- those that a check of an accepted tree notes
noted-by : {tree : List ℕ} {r : Placed Layout} → CheckEnds tree r → r.number ≡ 0 → r.value.containers ≡ first_two (offsets (containers_of tree (blocks_of tree)))
unfolding layout_of
noted-by {tree} (answered h w) z = ap first_two (sym (containers-agree (all_tokens tree)))
noted-by (header_refused h l m p) z = absurd (omega arith)
noted-by (walk_refused h f) z = absurd (omega (arith, f.least))

pub containers-noted : (tree : List ℕ) → (check_tree tree).number ≡ 0 → (check_tree tree).value.containers ≡ first_two (offsets (containers_of tree (blocks_of tree)))
containers-noted tree z = noted-by (check-ends tree) z
