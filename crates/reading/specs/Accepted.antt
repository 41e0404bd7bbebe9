-- What an accepted tree is, in the words of document 01, "The feature record".
use Rattle.std.specs.Prelude.{ℕ, ◌≤◌, ◌<◌, ◌≡◌, true, false, List, ◌∷◌, ◌++◌, length, get_or}
use Rattle.refusal.specs.Refusal.{Fault}
use Rattle.refusal.specs.Checks.{Check}
use Rattle.header.specs.Header.{blocks_of}
use Rattle.names.specs.Names.{same_text}
use Rattle.container.specs.Container.{ContainerType, ContainerCompatible}
use Rattle.positions.specs.Below.{is_somewhere}
use Rattle.record.specs.Record.{most_features, most_dependencies, highest_hfscr_bit, highest_fscr_bit, highest_hwcap_bit}
use Rattle.walk.specs.Checked.{check_tree}
use Rattle.nodes.specs.Nodes.{Node, node_at, children}
use Rattle.nodes.specs.Values.{Value, value_of, bytes_of, is_given, is_cell, is_cell_or_missing, is_cells, number, low_bit, cells_of}
use Rattle.reading.specs.Features.{some, is_phandle, is_repeated}
use Rattle.reading.specs.Dependencies.{carrier}
use Rattle.reading.specs.Reading.{containers_of, read_checks}

-- the container of a tree, its features, and the checks of them all
abbrev pub container_of : List ℕ → Node
container_of tree = node_at (containers_of tree (blocks_of tree)) 0

abbrev pub features_of : List ℕ → List Node
features_of tree = children (container_of tree)

abbrev pub checks_of : List ℕ → List (Check Fault)
checks_of tree = read_checks (blocks_of tree).start (containers_of tree (blocks_of tree))

-- the cells of a node's dependencies
abbrev pub dependencies_of : Node → List ℕ
dependencies_of n = cells_of (value_of n "dependencies")

-- a bit number, which may be missing: "0 to 63"
pub record NumberForm (highest : ℕ) (v : Value) : Type 0 where
  pub form : is_cell_or_missing v ≡ true
  pub range : number v ≤ highest

-- "required where that bit 0 is set"
abbrev pub GivenWhere : Value → Value → Type 0
GivenWhere support v = low_bit support ≡ true → is_given v ≡ true

-- a feature behind others: its properties are of the right form, and neither its name nor its phandle is one of theirs
pub record FeatureForm (before : List Node) (n : Node) : Type 0 where
  pub isa : is_cell (value_of n "isa") ≡ true
  pub privilege : is_cell (value_of n "usable-privilege") ≡ true
  pub hypervisor : is_cell_or_missing (value_of n "hv-support") ≡ true
  pub system : is_cell_or_missing (value_of n "os-support") ≡ true
  pub hfscr : NumberForm highest_hfscr_bit (value_of n "hfscr-bit-nr")
  pub fscr : NumberForm highest_fscr_bit (value_of n "fscr-bit-nr")
  -- (A2) "the binding lets older features lack it"
  pub hwcap : NumberForm highest_hwcap_bit (value_of n "hwcap-bit-nr")
  pub hfscr_given : GivenWhere (value_of n "hv-support") (value_of n "hfscr-bit-nr")
  pub fscr_given : GivenWhere (value_of n "os-support") (value_of n "fscr-bit-nr")
  pub phandle : is_cell_or_missing (value_of n "phandle") ≡ true
  pub phandle_range : is_phandle (value_of n "phandle") ≡ true
  pub phandle_once : is_repeated before (value_of n "phandle") ≡ false
  pub dependencies : is_cells (value_of n "dependencies") ≡ true
  pub few : length (dependencies_of n) ≤ most_dependencies
  pub name_once : some (λ (m : Node). same_text m.name n.name) before ≡ false

-- (A3) "`compatible` at any place and either `device_type` as its only string"
pub record ContainerStrings (c : Node) : Type 0 where
  pub device_type : ContainerType (bytes_of (value_of c "device_type"))
  pub compatible : ContainerCompatible (bytes_of (value_of c "compatible"))

-- a container with its features
pub record ContainerForm (c : Node) : Type 0 where
  pub strings : ContainerStrings c
  pub isa : is_cell (value_of c "isa") ≡ true
  pub few : length (children c) ≤ most_features
  pub features : (before : List Node) (n : Node) (behind : List Node) → children c ≡ before ++ n ∷ behind → FeatureForm before n
  pub found : (before : List Node) (n : Node) (behind : List Node) → children c ≡ before ++ n ∷ behind
      → (j : ℕ) → j < length (dependencies_of n) → is_somewhere (carrier (children c) (get_or (dependencies_of n) j 0)) ≡ true

-- an accepted tree
pub record Accepted (tree : List ℕ) : Type 0 where
  pub walked : (check_tree tree).number ≡ 0
  pub once : length (containers_of tree (blocks_of tree)) ≡ 1
  pub form : ContainerForm (container_of tree)
