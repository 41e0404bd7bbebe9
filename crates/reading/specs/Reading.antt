-- The feature record of a tree (document 01, "The feature record"): "All this comes after the whole walk".
use Rattle.std.specs.Prelude.{ℕ, zero, suc, List, [], ◌∷◌, ◌++◌, map, leb, length}
use Rattle.refusal.specs.Refusal.{Fault, fault, Placed, placed, refuse_at}
use Rattle.refusal.specs.Checks.{Check, check, first_fault}
use Rattle.cells.specs.Rows.{padded}
use Rattle.container.specs.Container.{is_container_type, is_container_compatible}
use Rattle.header.specs.declared.Blocks.{Blocks}
use Rattle.walk.specs.Walk.{tree_tokens}
use Rattle.walk.specs.Containers.{container_name}
use Rattle.walk.specs.Checked.{check_tree}
use Rattle.walk.specs.declared.Layout.{Layout}
use Rattle.record.specs.declared.Record.{Record}
use Rattle.record.specs.Record.{most_features, slot_count, no_feature, no_features}
use Rattle.nodes.specs.Nodes.{Node, node_at, nodes_named, children}
use Rattle.nodes.specs.Values.{value_of, bytes_of, is_cell, number}
use Rattle.reading.specs.Features.{in_order, name_checks, feature_checks, feature_of}
use Rattle.reading.specs.Dependencies.{carrier_checks, Resolution, unknown, found, slots_of}

-- "none is 10 at the structure's start, a second one 9 at its begin token"
abbrev pub container_checks : ℕ → List Node → List (Check Fault)
container_checks start containers =
    check (leb 1 (length containers)) (fault 10 start) ∷ check (leb (length containers) 1) (fault 9 (node_at containers 1).at) ∷ []

-- its `device_type`, its `compatible` (A3) and "`isa` one cell; checked in that order, 11 at the container's begin token"
abbrev pub container_properties : Node → List (Check Fault)
container_properties c =
    check (is_container_type (bytes_of (value_of c "device_type"))) (fault 11 c.at)
    ∷ check (is_container_compatible (bytes_of (value_of c "compatible"))) (fault 11 c.at)
    ∷ check (is_cell (value_of c "isa")) (fault 11 c.at)
    ∷ []

-- "The 65th is 8 at its begin token"
abbrev pub count_checks : List Node → List (Check Fault)
count_checks features = check (leb (length features) most_features) (fault 8 (node_at features most_features).at) ∷ []

-- all of it, in document 01's order
unfoldable pub read_checks : ℕ → List Node → List (Check Fault)
read_checks start containers =
    let container = node_at containers 0 in
    let features = children container in
    container_checks start containers
    ++ container_properties container
    ++ count_checks features
    ++ in_order name_checks [] features
    ++ in_order feature_checks [] features
    ++ carrier_checks features features

-- "a record of at most 64 features with its count"; "Unused slots are zero"
unfoldable pub record_with : Node → List ℕ → Record
record_with container slots =
    let features = children container in
    record {
      isa = number (value_of container "isa");
      count = length features;
      features = padded most_features no_feature (map feature_of features);
      slots = padded slot_count 0 slots;
    }

-- by what the dependencies of all features resolve to; no features where they do not all resolve
abbrev pub record_by : Node → Resolution → Record
record_by container unknown = no_features
record_by container (found slots) = record_with container slots

unfoldable pub record_of : Node → Record
record_of container = record_by container (slots_of (children container) (children container))

-- the containers of a tree
abbrev pub containers_of : List ℕ → Blocks → List Node
containers_of tree b = nodes_named container_name (tree_tokens tree b b.start)

abbrev pub read_accepted : List ℕ → Blocks → Placed Record
read_accepted tree b =
    first_fault (refuse_at no_features) (read_checks b.start (containers_of tree b)) (placed (record_of (node_at (containers_of tree b) 0)))

-- "A refused read returns number, place .. and a record with no features"
abbrev pub after_walk : List ℕ → Placed Layout → Placed Record
after_walk tree checked = elim checked.number [
  | zero ↦ read_accepted tree checked.value.blocks
  | suc n ↦ refuse_at no_features (fault checked.number checked.place)
]

unfoldable pub read_record : List ℕ → Placed Record
read_record tree = after_walk tree (check_tree tree)
