-- What the parts of the walk's code answer. The promise of `check_tree` rests on `Checked`, not on this file.
use Rattle.std.specs.Prelude.{ℕ, zero, suc, ◌+◌, ◌*◌, ◌/◌, ◌≤◌, ◌≡◌, List, [], ◌∷◌, ◌++◌, eqb, Result, Ok, Err}
use Rattle.strings.specs.Strings.{ended, unended, same_bytes}
use Rattle.names.specs.Names.{node_name_at}
use Rattle.refusal.specs.Refusal.{number_of, Outcome, Placed, placed, refuse_at, fault as refused_at}
use Rattle.refusal.specs.declared.RefusedAt.{RefusedAt}
use Rattle.header.specs.declared.Blocks.{Blocks}
use Rattle.tokens.specs.declared.Step.TheVariants.{BeginNode, EndNode, Property, Nop, End, Fault}
use Rattle.tokens.specs.Steps.{pick, step_at}
use Rattle.tokens.specs.Tokens.{Token, begin_node, end_node, property, nop, end, fault}
use Rattle.walk.specs.Walk.{Verdict, accepted, refused, State, after_root, walk, tree_tokens}
use Rattle.walk.specs.Containers.{container_name}
use Rattle.walk.specs.declared.Containers.{Containers}
use Rattle.walk.specs.Checked.{no_layout}
use Rattle.walk.specs.declared.Layout.{Layout}
use Rattle.walk.specs.declared.Item.{Item}
use Rattle.walk.specs.declared.Item.TheVariants.{Skip, Child, Close}
use Rattle.walk.specs.declared.NodeRead.{NodeRead}

-- what stands next in a node, with places and numbers
pub data Part : Type 0 where
  skip : (next : ℕ) → Part
  child : (at name length next : ℕ) → Part
  close : (next : ℕ) → Part
  stop_at : (number at : ℕ) → Part

abbrev pub part_of : Result Item RefusedAt → Part
part_of (Ok (Skip next)) = skip next.at
part_of (Ok (Child c)) = child c.at c.name c.length c.next.at
part_of (Ok (Close next)) = close next.at
part_of (Err e) = stop_at (number_of e.refusal) e.place

-- a child node by its name, which begins at `from`: its length, or its fault
abbrev pub child_by : Outcome ℕ → ℕ → ℕ → Part
child_by o t from = elim o.number [ zero ↦ child t from o.value (from + (o.value / 4 + 1) * 4) | suc n ↦ stop_at (suc n) t ]

unfoldable pub child_part : List ℕ → Blocks → ℕ → ℕ → Part
child_part s b t from = child_by (node_name_at s from b.end) t from

-- what stands at a place in a node, behind its properties: a property has no place there
unfoldable pub part_at : List ℕ → Blocks → ℕ → Part
part_at s b at =
    elim (step_at s b.end at) [
      | BeginNode t name ↦ child_part s b t name.at
      | EndNode t next ↦ close next.at
      | Property t value size name next ↦ stop_at 6 t
      | Nop t next ↦ skip next.at
      | End t ↦ stop_at 6 t
      | Fault t ↦ stop_at 6 t
    ]

abbrev pub none : Containers
none = record { count = 0; first = 0; second = 0 }

-- one more container
abbrev pub add : Containers → ℕ → Containers
add c at =
    pick (eqb c.count 0) (record { count = 1; first = at; second = 0 })
    (pick (eqb c.count 1) (record { count = 2; first = c.first; second = at }) c)

-- a node of a name begins
abbrev pub note : Containers → ℕ → List ℕ → Containers
note c at name = pick (same_bytes name container_name) (add c at) c

unfoldable pub notes : Containers → List Token → Containers
notes c [] = c
notes c (begin_node at (ended name) ∷ ts) = notes (note c at name) ts
notes c (begin_node at unended ∷ ts) = notes c ts
notes c (end_node at ∷ ts) = notes c ts
notes c (property at name value ∷ ts) = notes c ts
notes c (nop at ∷ ts) = notes c ts
notes c (end at ∷ ts) = notes c ts
notes c (fault at ∷ ts) = notes c ts

-- the contents of a node with `levels` left below it, to the whole walk: it goes on past the node's end token, in its parent
pub record Passed (s : List ℕ) (b : Blocks) (q : State) (from : ℕ) (seen : Containers) (r : State) (next : ℕ) (found : Containers) : Type 0 where
  pub read : List Token
  pub split : tree_tokens s b from ≡ read ++ tree_tokens s b next
  pub noted : found ≡ notes seen read
  pub same : walk b.end q (tree_tokens s b from) ≡ walk b.end r (tree_tokens s b next)

-- or it stops there
abbrev pub Reads : List ℕ → Blocks → State → ℕ → Containers → State → Result NodeRead RefusedAt → Type 0
Reads s b q from seen r (Ok n) = (from ≤ n.next.at) × Passed s b q from seen r n.next.at n.found
Reads s b q from seen r (Err e) = walk b.end q (tree_tokens s b from) ≡ refused (number_of e.refusal) e.place

-- the verdict of what was read after the root
abbrev pub verdict : Result (Unit {0}) RefusedAt → Verdict
verdict (Ok u) = accepted
verdict (Err e) = refused (number_of e.refusal) e.place

-- what follows the root: the verdict, and no container where it is accepted
pub record Ends (s : List ℕ) (b : Blocks) (from : ℕ) (r : Result (Unit {0}) RefusedAt) : Type 0 where
  pub same : walk b.end after_root (tree_tokens s b from) ≡ verdict r
  pub nothing : walk b.end after_root (tree_tokens s b from) ≡ accepted → (c : Containers) → notes c (tree_tokens s b from) ≡ c

-- the outcome of a verdict where these containers were found
abbrev pub outcome : Blocks → Containers → Verdict → Placed Layout
outcome b found accepted = placed (record { blocks = b; containers = found })
outcome b found (refused n p) = refuse_at no_layout (refused_at n p)

-- what follows the root's contents: the outcome, and no container where it is accepted
pub record Closes (s : List ℕ) (b : Blocks) (at : ℕ) (found : Containers) (r : Placed Layout) : Type 0 where
  pub is : r ≡ outcome b found (walk b.end after_root (tree_tokens s b at))
  pub nothing : walk b.end after_root (tree_tokens s b at) ≡ accepted → (c : Containers) → notes c (tree_tokens s b at) ≡ c
