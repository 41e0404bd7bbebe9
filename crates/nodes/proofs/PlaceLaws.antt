-- What the answers of the public functions show of a tree. Assumes nothing.
use mathlib.Core.Path.{◌≡◌, refl, sym, ap, subst, ◌∙◌}
use mathlib.Core.Bool.{Bool, true, false}
use mathlib.Core.List.{List, [], ◌∷◌, map}
use Prim.Native.Nat.{ℕ, ◌+◌, ◌<◌, ◌≤◌, min}
use native.Mathlib.Omega.{arith}
use borrow.Author.Tests.{ltb-true, ltb-false}
use lib.Dec.{ltb}
use lib.ListN.{length, get_or}
use lib.Seq.{take_all}
use Rattle.std.specs.Prelude.{Option, None, Some}
use Rattle.cells.specs.Rows.{padded}
use Rattle.strings.specs.Strings.{ended}
use Rattle.header.specs.declared.Blocks.{Blocks}
use Rattle.names.specs.Names.{same_text}
use Rattle.tokens.specs.Steps.{pick}
use Rattle.tokens.specs.Tokens.{Token, begin_node, end_node, property, nop, end, fault}
use Rattle.walk.specs.Walk.{tree_tokens}
use Rattle.record.specs.Record.{most_features}
use Rattle.nodes.specs.declared.Extent.{Extent}
use Rattle.nodes.specs.declared.ChildPlaces.{ChildPlaces}
use Rattle.nodes.specs.Nodes.{Node, node_at, children_at}
use Rattle.nodes.specs.Values.{value, value_in}
use Rattle.nodes.specs.Places.{tokens_in, extent, held_in, no_place, place_of, over_of, child_places}
use Rattle.nodes.specs.Parts.{Shows, IsNode, Gathers}
use Rattle.nodes.proofs.ValueLaws.{tokens-in}
use Rattle.nodes.proofs.Located.{Located, Stand, tokens-stand, child-located}
use Rattle.nodes.proofs.RowLaws.{row-node}

-- where the 65th of some nodes begins, there are so many
over-some : (ns : List Node) {at : ℕ} → over_of ns ≡ Some at → (most_features < length ns) × ((node_at ns most_features).at ≡ at)
over-some ns {at} e = go (ltb most_features (length ns)) refl e
  where
    go : (m : Bool) → ltb most_features (length ns) ≡ m → pick m (Some (node_at ns most_features).at) None ≡ Some at
        → (most_features < length ns) × ((node_at ns most_features).at ≡ at)
    go true k e = (ltb-true most_features (length ns) k, cc)
    go false k e = cc

over-none : (ns : List Node) → over_of ns ≡ None → length ns ≤ most_features
over-none ns e = go (ltb most_features (length ns)) refl e
  where
    go : (m : Bool) → ltb most_features (length ns) ≡ m → pick m (Some (node_at ns most_features).at) None ≡ None → length ns ≤ most_features
    go true k e = cc
    go false k e = ltb-false most_features (length ns) k

module _ (tree : List ℕ) (b : Blocks) where
  -- a value lies where it is held
  value-held : b.end ≤ length tree → (n : List ℕ) (ts : List Token) → Stand tree b ts → Shows tree (value_in n ts) (held_in n ts)
  unfolding value_in held_in
  value-held h n [] s = refl
  value-held h n (begin_node at name ∷ ts) s = refl
  value-held h n (end_node at ∷ ts) s = refl
  value-held h n (property at name bytes ∷ ts) s = go (same_text name (ended n)) (value-held h n ts s.1)
    where
      go : (same : Bool) → Shows tree (value_in n ts) (held_in n ts)
          → Shows tree (pick same (value bytes) (value_in n ts)) (pick same (Some (extent (at + 12) (length bytes))) (held_in n ts))
      go true k = s.0 h
      go false k = k
  value-held h n (nop at ∷ ts) s = value-held h n ts s
  value-held h n (end at ∷ ts) s = refl
  value-held h n (fault at ∷ ts) s = refl

  pub shown : (first : ℕ) (n : List ℕ) {r x : Option Extent} → r ≡ held_in n (tokens_in tree b first) → r ≡ x → b.end ≤ length tree
      → Shows tree (value_in n (tree_tokens tree b first)) x
  shown first n e k h =
      subst (Shows tree (value_in n (tree_tokens tree b first))) (sym (ap (held_in n) (tokens-in tree b first h)) ∙ sym e ∙ k)
      (value-held h n (tree_tokens tree b first) (tokens-stand tree b first))

  -- a node's place by where it stands
  is-node : (n : Node) → Located tree b n → IsNode tree b n (place_of b.end n)
  is-node n l = record { offset = refl; name = l.name; values = λ name. rw l.name (l.like.values name) }

  pub gathers : (first : ℕ) {r : ChildPlaces} → r ≡ child_places b.end (children_at 0 (tree_tokens tree b first))
      → Gathers tree b (children_at 0 (tree_tokens tree b first)) r
  unfolding child_places
  gathers first {r} e =
      record {
        many = λ k. (there k).0;
        over = λ k. (there k).1;
        few = few;
        within = omega (arith, count);
        count = λ k. omega (arith, count, few k);
        nodes = λ k i l. rw (place k i l) (is-node (node_at all i) (child-located tree b first i l));
      }
    where
      all : List Node
      all = children_at 0 (tree_tokens tree b first)

      count : r.count ≡ min (length all) most_features
      count = ap (λ (c : ChildPlaces). c.count) e

      over : r.over ≡ over_of all
      over = ap (λ (c : ChildPlaces). c.over) e

      there : {at : ℕ} → r.over ≡ Some at → (most_features < length all) × ((node_at all most_features).at ≡ at)
      there k = over-some all (sym over ∙ k)

      few : r.over ≡ None → length all ≤ most_features
      few k = over-none all (sym over ∙ k)

      place : r.over ≡ None → (i : ℕ) → i < length all → get_or r.places i no_place ≡ place_of b.end (node_at all i)
      place z i l =
          ap (λ (c : ChildPlaces). get_or c.places i no_place) e
          ∙ ap (λ (ns : List Node). get_or (padded most_features no_place (map (place_of b.end) ns)) i no_place) (take_all most_features all (few z))
          ∙ row-node (place_of b.end) most_features no_place all i l
