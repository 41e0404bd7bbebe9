-- What the parts of the code answer, and how what the public functions answer relates to the nodes of a tree.
use Rattle.std.specs.Prelude.{ℕ, ◌+◌, ◌≤◌, ◌<◌, ◌≡◌, Bool, true, false, List, ◌∷◌, Option, None, Some, length, take, drop, get_or}
use Rattle.strings.specs.Strings.{text_at}
use Rattle.header.specs.declared.Blocks.{Blocks}
use Rattle.tokens.specs.Tokens.{Token}
use Rattle.walk.specs.Walk.{tree_tokens}
use Rattle.record.specs.Record.{most_features}
use Rattle.nodes.specs.declared.Extent.{Extent}
use Rattle.nodes.specs.declared.Move.{Move}
use Rattle.nodes.specs.declared.Move.TheVariants.{Child, Past}
use Rattle.nodes.specs.declared.NodePlace.{NodePlace}
use Rattle.nodes.specs.declared.ChildPlaces.{ChildPlaces}
use Rattle.nodes.specs.Nodes.{Node, node_at, children_at}
use Rattle.nodes.specs.Values.{Value, missing, value, value_in}
use Rattle.nodes.specs.Places.{no_place, place_of}

-- where a value lies in a tree
pub record Lies (tree : List ℕ) (v : Value) (from size : ℕ) : Type 0 where
  pub bytes : v ≡ value (take size (drop from tree))
  pub within : from + size ≤ length tree

abbrev pub Shows : List ℕ → Value → Option Extent → Type 0
Shows tree v None = v ≡ missing
Shows tree v (Some e) = Lies tree v e.from e.length

-- lists of tokens that begin with the same properties and have the same child nodes
pub record Alike (ts us : List Token) : Type 0 where
  pub values : (n : List ℕ) → value_in n ts ≡ value_in n us
  pub nodes : (depth : ℕ) → children_at depth ts ≡ children_at depth us

-- what the token at a place is to the children of a node, in as many nodes of its own
pub data Moved (tree : List ℕ) (b : Blocks) (depth at : ℕ) : Move → Type 0 where
  child : {t name next : ℕ} {n : Node} → children_at depth (tree_tokens tree b at) ≡ n ∷ children_at 1 (tree_tokens tree b next)
      → place_of b.end n ≡ record { at = t; name = name; behind = next } → at < next → Moved tree b depth at (Child t name next)
  past : {d next : ℕ} → children_at depth (tree_tokens tree b at) ≡ children_at d (tree_tokens tree b next) → at < next → d ≤ next
      → Moved tree b depth at (Past d next)

-- a node's place: its offset, its name, and its values
pub record IsNode (tree : List ℕ) (b : Blocks) (n : Node) (p : NodePlace) : Type 0 where
  pub offset : n.at ≡ p.at
  pub name : n.name ≡ text_at tree p.name b.end
  pub values : (name : List ℕ) → value_in name n.behind ≡ value_in name (tree_tokens tree b p.behind)

-- the places of some nodes
abbrev pub AreNodes : List ℕ → Blocks → List Node → List NodePlace → Type 0
AreNodes tree b ns ps = (i : ℕ) → i < length ns → IsNode tree b (node_at ns i) (get_or ps i no_place)

-- the places of all of some nodes, where there are not more than 64
pub record Gathers (tree : List ℕ) (b : Blocks) (all : List Node) (r : ChildPlaces) : Type 0 where
  pub many : {at : ℕ} → r.over ≡ Some at → most_features < length all
  pub over : {at : ℕ} → r.over ≡ Some at → (node_at all most_features).at ≡ at
  pub few : r.over ≡ None → length all ≤ most_features
  pub within : r.count ≤ most_features
  pub count : r.over ≡ None → r.count ≡ length all
  pub nodes : r.over ≡ None → AreNodes tree b all r.places

-- the first position below n that is the same as an earlier one; none, where none is
abbrev pub FirstRepeated : (ℕ → ℕ → Bool) → ℕ → Option ℕ → Type 0
FirstRepeated same n None = (i j : ℕ) → i < n → j < i → same i j ≡ false
FirstRepeated same n (Some r) = (r < n) × ((i j : ℕ) → i < r → j < i → same i j ≡ false) × ((j : ℕ) × ((j < r) × (same r j ≡ true)))
