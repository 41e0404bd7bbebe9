-- Where nodes and values lie in a tree: what the public functions answer.
use Rattle.std.specs.Prelude.{ℕ, ◌+◌, min, Bool, List, [], ◌∷◌, map, Option, None, Some, leb, ltb, length, take, get_or}
use Rattle.cells.specs.Rows.{padded}
use Rattle.strings.specs.Strings.{Text, ended, unended, text_at}
use Rattle.names.specs.Names.{same_text}
use Rattle.header.specs.declared.Blocks.{Blocks}
use Rattle.tokens.specs.Steps.{pick}
use Rattle.tokens.specs.Tokens.{Token, begin_node, end_node, property, nop, end, fault, after_name}
use Rattle.walk.specs.Walk.{tree_tokens}
use Rattle.positions.specs.Below.{some, first_that}
use Rattle.record.specs.Record.{most_features}
use Rattle.nodes.specs.declared.Extent.{Extent}
use Rattle.nodes.specs.declared.NodePlace.{NodePlace}
use Rattle.nodes.specs.declared.ChildPlaces.{ChildPlaces}
use Rattle.nodes.specs.Nodes.{Node, node_at}

-- the tokens from a place on, of blocks that lie in a tree; none where they do not
unfoldable pub tokens_in : List ℕ → Blocks → ℕ → List Token
tokens_in tree b at = pick (leb b.end (length tree)) (tree_tokens tree b at) []

abbrev pub extent : ℕ → ℕ → Extent
extent from length = record { from = from; length = length }

-- where the value of the property of a name lies, among those that some tokens begin with: behind its token and two cells
unfoldable pub held_in : List ℕ → List Token → Option Extent
held_in n [] = None
held_in n (property at name bytes ∷ ts) = pick (same_text name (ended n)) (Some (extent (at + 12) (length bytes))) (held_in n ts)
held_in n (nop at ∷ ts) = held_in n ts
held_in n (begin_node at name ∷ ts) = None
held_in n (end_node at ∷ ts) = None
held_in n (end at ∷ ts) = None
held_in n (fault at ∷ ts) = None

-- where a node's contents begin: behind its name, which begins at `from`
unfoldable pub behind_of : ℕ → Text → Option ℕ
behind_of from (ended name) = Some (after_name from name)
behind_of from unended = None

-- where to go on behind a begin token, in a block that ends at `stop`: at `stop`, where no token is left, if its name does not end
abbrev pub next_behind : ℕ → ℕ → Text → ℕ
next_behind from stop (ended name) = after_name from name
next_behind from stop unended = stop

abbrev pub no_place : NodePlace
no_place = record { at = 0; name = 0; behind = 0 }

-- a node's place: its begin token's offset, its name behind it, and its contents behind its name; if its name does not end, these stand at
-- `stop`, where no token is left
abbrev pub place_of : ℕ → Node → NodePlace
place_of stop n = record { at = n.at; name = n.at + 4; behind = next_behind (n.at + 4) stop n.name }

-- where the 65th of some nodes begins, if there are so many
abbrev pub over_of : List Node → Option ℕ
over_of ns = pick (ltb most_features (length ns)) (Some (node_at ns most_features).at) None

-- the places of the first 64 of some nodes, and where the next begins; unused places are zero
unfoldable pub child_places : ℕ → List Node → ChildPlaces
child_places stop ns = record {
  count = min (length ns) most_features;
  over = over_of ns;
  places = padded most_features no_place (map (place_of stop) (take most_features ns));
}

-- the nodes at two positions have the same name
unfoldable pub same_names : List ℕ → ℕ → List NodePlace → ℕ → ℕ → Bool
same_names tree stop ps i j = same_text (text_at tree (get_or ps j no_place).name stop) (text_at tree (get_or ps i no_place).name stop)

-- the first position below n that is the same as an earlier one, if there is one
unfoldable pub first_repeated : (ℕ → ℕ → Bool) → ℕ → Option ℕ
first_repeated same n = first_that n (λ (i : ℕ). some i (same i))
