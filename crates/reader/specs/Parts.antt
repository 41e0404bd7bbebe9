-- What the parts of the reader's code answer. The promises of the public functions rest on `Reading`, not on this file.
use Rattle.std.specs.Prelude.{ℕ, ◌+◌, ◌*◌, ◌≤◌, ◌<◌, ◌≡◌, Bool, true, false, ◌&&◌, List, [], ◌++◌, map, Option, None, Some, Result, Ok, Err, unwrap_or, length, get_or, set, eqb, leb}
use Rattle.tokens.specs.Tokens.{Token}
use Rattle.header.specs.declared.Blocks.{Blocks}
use Rattle.walk.specs.Walk.{tree_tokens}
use Rattle.header.specs.Header.{largest_tree}
use Rattle.cells.specs.Cells.{cell_at}
use Rattle.cells.specs.Rows.{padded}
use Rattle.container.specs.Container.{is_container_type, is_container_compatible}
use Rattle.record.specs.declared.Record.{Record}
use Rattle.record.specs.declared.Feature.{Feature}
use Rattle.record.specs.Record.{most_features, most_dependencies, slot_count, highest_hfscr_bit, highest_fscr_bit, highest_hwcap_bit, no_feature, no_features}
use Rattle.characters.specs.Characters.{bytes}
use Rattle.record.specs.Cells.{low_bit}
use Rattle.nodes.specs.declared.NodePlace.{NodePlace}
use Rattle.nodes.specs.declared.ChildPlaces.{ChildPlaces}
use Rattle.nodes.specs.Nodes.{Node, node_at, children}
use Rattle.refusal.specs.Refusal.{Fault, Placed, placed, refuse_at, number_of, number_in}
use Rattle.refusal.specs.Checks.{Check, first_fault}
use Rattle.refusal.specs.declared.Refusal.{Refusal}
use Rattle.refusal.specs.declared.RefusedAt.{RefusedAt}
use Rattle.refusal.specs.declared.Refusal.TheVariants.{OutOfRange, UnknownPhandle}
use Rattle.tokens.specs.Steps.{pick}
use Rattle.feature.specs.declared.CellRead.{CellRead}
use Rattle.feature.specs.Feature.{read_as, cell_from}
use Rattle.feature.specs.declared.SupportCells.{SupportCells}
use Rattle.feature.specs.declared.BitCells.{BitCells}
use Rattle.feature.specs.declared.FeatureCells.{FeatureCells}
use Rattle.reading.specs.Reading.{container_properties, count_checks, record_of}
use Rattle.nodes.specs.Parts.{Alike, IsNode, AreNodes}
use Rattle.nodes.specs.Values.{Value, missing, value, value_in, value_of, bytes_of, number, cells_of}
use Rattle.reading.specs.Features.{in_order, name_checks, number_checks, bit_checks, phandle_checks, dependencies_checks, feature_checks, cell_of, count_of, feature_of}
use Rattle.reading.specs.Dependencies.{carrier_checks, Resolution, unknown, found, positions_of, slots_of}
use Rattle.reading.specs.Ends.{AllHold, FirstFailing}

-- the cell of a property, or its refusal
abbrev pub CellResult : Type 0
CellResult = Result (Option ℕ) Refusal

-- the refusal of a property of one cell, 0 where there is none; it may be needed
abbrev pub cell_fault : Bool → Value → ℕ
cell_fault needed missing = pick needed 11 0
cell_fault needed (value bs) = pick (eqb (length bs) 4) 0 11

-- the refusal of a property of one cell, and the cell where there is none
pub record CellIs (needed : Bool) (v : Value) (r : CellResult) : Type 0 where
  pub fault : number_in r ≡ cell_fault needed v
  pub cell : number_in r ≡ 0 → cell_from (read_as r) ≡ cell_of v

-- a cell refused where its number is above another: "0 to 63", no "all ones"
abbrev pub at_most : ℕ → CellResult → CellResult
at_most high (Ok None) = Ok None
at_most high (Ok (Some n)) = pick (leb n high) (Ok (Some n)) (Err OutOfRange)
at_most high (Err refusal) = Err refusal

-- what some checks find: nothing, or the number and the place of the first that does not hold
pub record Judged (cs : List (Check Fault)) (number place : ℕ) : Type 0 where
  pub hold : number ≡ 0 → AllHold cs
  pub fail : (number ≡ 0 → ⊥) → FirstFailing cs number place

-- the number of a node's dependencies
pub record CountIs (v : Value) (r : CellResult) : Type 0 where
  pub judged : (at : ℕ) → Judged (dependencies_checks at v) (number_in r) at
  pub cell : number_in r ≡ 0 → cell_from (read_as r) ≡ count_of v

-- what is noted of a node's phandle
abbrev pub noted_of : Node → Option ℕ
noted_of n = cell_of (value_of n "phandle")

abbrev pub ArePhandles : List (Option ℕ) → List Node → Type 0
ArePhandles phandles nodes = phandles ≡ padded most_features None (map noted_of nodes)

-- the features that some nodes are, and no more
abbrev pub AreFeatures : List Feature → List Node → Type 0
AreFeatures features nodes = features ≡ padded most_features no_feature (map feature_of nodes)

-- a bit number that may be missing, and one that may be needed
pub record NumberIs (highest : ℕ) (v : Value) (r : CellResult) : Type 0 where
  pub judged : (at : ℕ) → Judged (number_checks at highest v) (number_in r) at
  pub cell : number_in r ≡ 0 → cell_from (read_as r) ≡ cell_of v

pub record BitIs (highest : ℕ) (needed : Bool) (v : Value) (r : CellResult) : Type 0 where
  pub judged : (at : ℕ) → Judged (bit_checks at highest needed v) (number_in r) at
  pub cell : number_in r ≡ 0 → cell_from (read_as r) ≡ cell_of v

-- a phandle behind the features of some nodes
pub record PhandleIs (phandles : List (Option ℕ)) (n : ℕ) (v : Value) (r : CellResult) : Type 0 where
  pub judged : (before : List Node) → ArePhandles phandles before → n ≡ length before → (at : ℕ) → Judged (phandle_checks at before v) (number_in r) at
  pub cell : number_in r ≡ 0 → cell_from (read_as r) ≡ cell_of v

-- a property as an answer gives it
pub record IsRead (Is : CellResult → Type 0) (r : CellRead) : Type 0 where
  pub answer : CellResult
  pub is : Is answer
  pub same : r ≡ read_as answer

-- the cells of a feature's properties, each by itself
pub record SupportIs (ts : List Token) (r : SupportCells) : Type 0 where
  pub usable : IsRead (CellIs true (value_in (bytes "usable-privilege") ts)) r.usable_privilege
  pub hv : IsRead (CellIs false (value_in (bytes "hv-support") ts)) r.hv_support
  pub os : IsRead (CellIs false (value_in (bytes "os-support") ts)) r.os_support

pub record BitsAre (ts : List Token) (s : SupportCells) (r : BitCells) : Type 0 where
  pub hfscr : IsRead (BitIs highest_hfscr_bit (low_bit (cell_from s.hv_support)) (value_in (bytes "hfscr-bit-nr") ts)) r.hfscr_bit_nr
  pub fscr : IsRead (BitIs highest_fscr_bit (low_bit (cell_from s.os_support)) (value_in (bytes "fscr-bit-nr") ts)) r.fscr_bit_nr
  pub hwcap : IsRead (NumberIs highest_hwcap_bit (value_in (bytes "hwcap-bit-nr") ts)) r.hwcap_bit_nr

pub record CellsAre (ts : List Token) (phandles : List (Option ℕ)) (n : ℕ) (r : FeatureCells) : Type 0 where
  pub isa : IsRead (CellIs true (value_in (bytes "isa") ts)) r.isa
  pub support : SupportIs ts r.support
  pub bits : BitsAre ts r.support r.bits
  pub phandle : IsRead (PhandleIs phandles n (value_in (bytes "phandle") ts)) r.phandle
  pub dependencies : IsRead (CountIs (value_in (bytes "dependencies") ts)) r.dependencies

-- one feature behind others: what its checks find, and the feature and what is noted of its phandle where they find nothing
pub record FeatureIs (before : List Node) (n : Node) (old new : List (Option ℕ)) (r : Result Feature Refusal) : Type 0 where
  pub judged : Judged (feature_checks before n) (number_in r) n.at
  pub feature : {f : Feature} → r ≡ Ok f → f ≡ feature_of n
  pub phandle : number_in r ≡ 0 → new ≡ set old (length before) (noted_of n)

abbrev pub ReadsFeature : List ℕ → Blocks → NodePlace → List (Option ℕ) → List (Option ℕ) → ℕ → Result Feature Refusal → Type 0
ReadsFeature tree b p old new i r =
    (before : List Node) (n : Node) → IsNode tree b n p → ArePhandles old before → i ≡ length before → FeatureIs before n old new r

-- places that are those of some nodes, at most 64 of them
pub record AtPlaces (tree : List ℕ) (b : Blocks) (fs : ChildPlaces) (nodes : List Node) : Type 0 where
  pub count : fs.count ≡ length nodes
  pub few : length nodes ≤ most_features
  pub places : AreNodes tree b nodes fs.places
  pub low : (i : ℕ) → i < length nodes → (node_at nodes i).at ≤ largest_tree

abbrev pub SomeNodes : List ℕ → Blocks → ChildPlaces → Type 0
SomeNodes tree b fs = (nodes : List Node) × AtPlaces tree b fs nodes

abbrev pub FewEach : List Node → Type 0
FewEach nodes = (i : ℕ) → i < length nodes → length (cells_of (value_of (node_at nodes i) "dependencies")) ≤ most_dependencies

-- all features: those of the nodes, or the first refusal and its place
pub record FeaturesRead (nodes : List Node) (phandles : List (Option ℕ)) (features : List Feature) : Type 0 where
  pub hold : AllHold (in_order feature_checks [] nodes)
  pub are : AreFeatures features nodes
  pub noted : ArePhandles phandles nodes
  pub few : FewEach nodes

abbrev pub FeaturesAre : List Node → List (Option ℕ) → Result (List Feature) RefusedAt → Type 0
FeaturesAre nodes phandles (Ok features) = FeaturesRead nodes phandles features
FeaturesAre nodes phandles (Err e) = FirstFailing (in_order feature_checks [] nodes) (number_of e.refusal) e.place

abbrev pub ReadsFeatures : List ℕ → Blocks → ChildPlaces → List (Option ℕ) → Result (List Feature) RefusedAt → Type 0
ReadsFeatures tree b fs phandles r = (nodes : List Node) → AtPlaces tree b fs nodes → FeaturesAre nodes phandles r

-- where cells lie in a tree
pub record CellsLie (tree : List ℕ) (ps : List ℕ) (from : ℕ) : Type 0 where
  pub within : from + 4 * length ps ≤ length tree
  pub each : (j : ℕ) → j < length ps → cell_at tree (from + 4 * j) ≡ get_or ps j 0

-- slots behind others, which some positions fill
abbrev pub FilledBy : List ℕ → ℕ → List ℕ → List ℕ → Type 0
FilledBy ks at old new = (xs : List ℕ) → length xs ≡ at → old ≡ padded slot_count 0 xs → new ≡ padded slot_count 0 (xs ++ ks)

-- what phandles resolve to, put into the slots behind others; refused where it is nothing
abbrev pub Resolves : Resolution → ℕ → List ℕ → List ℕ → Result (Unit {0}) Refusal → Type 0
Resolves r at old new (Ok _) = (ks : List ℕ) × (r ≡ found ks) × FilledBy ks at old new
Resolves r at old new (Err e) = (e ≡ UnknownPhandle) × (r ≡ unknown)

abbrev pub ResolvesCells : List ℕ → ℕ → ℕ → List (Option ℕ) → ℕ → ℕ → List ℕ → List ℕ → Result (Unit {0}) Refusal → Type 0
ResolvesCells tree from n phandles count at old new r =
    (nodes : List Node) (ps : List ℕ) → ArePhandles phandles nodes → count ≡ length nodes → n ≡ length ps → CellsLie tree ps from
    → Resolves (positions_of nodes ps) at old new r

-- the cells of the dependencies of a node whose properties begin at a place
abbrev pub dependencies_at : List ℕ → Blocks → ℕ → List ℕ
dependencies_at tree b first = cells_of (value_in (bytes "dependencies") (tree_tokens tree b first))

abbrev pub RoomFor : List ℕ → Blocks → ℕ → ℕ → Type 0
RoomFor tree b first at = at + length (dependencies_at tree b first) ≤ slot_count

abbrev pub ResolvesFeature : List ℕ → Blocks → ℕ → List (Option ℕ) → ℕ → ℕ → List ℕ → List ℕ → Result (Unit {0}) Refusal → Type 0
ResolvesFeature tree b first phandles count at old new r =
    (nodes : List Node) → ArePhandles phandles nodes → count ≡ length nodes → Resolves (positions_of nodes (dependencies_at tree b first)) at old new r

-- places of nodes whose features were read
pub record Known (tree : List ℕ) (b : Blocks) (fs : ChildPlaces) (phandles : List (Option ℕ)) (nodes : List Node) : Type 0 where
  pub at : AtPlaces tree b fs nodes
  pub noted : ArePhandles phandles nodes
  pub few : FewEach nodes

abbrev pub SomeKnown : List ℕ → Blocks → ChildPlaces → List (Option ℕ) → Type 0
SomeKnown tree b fs phandles = (nodes : List Node) × Known tree b fs phandles nodes

-- all dependencies: those of the nodes fill the slots, or the first refusal and its place
pub record SlotsFilled (nodes : List Node) (slots : List ℕ) : Type 0 where
  pub hold : AllHold (carrier_checks nodes nodes)
  pub positions : List ℕ
  pub found : slots_of nodes nodes ≡ found positions
  pub are : slots ≡ padded slot_count 0 positions

abbrev pub SlotsAre : List Node → List ℕ → Result (Unit {0}) RefusedAt → Type 0
SlotsAre nodes slots (Ok _) = SlotsFilled nodes slots
SlotsAre nodes slots (Err e) = FirstFailing (carrier_checks nodes nodes) (number_of e.refusal) e.place

abbrev pub ResolvesAll : List ℕ → Blocks → ChildPlaces → List (Option ℕ) → List ℕ → Result (Unit {0}) RefusedAt → Type 0
ResolvesAll tree b fs phandles slots r = (nodes : List Node) → Known tree b fs phandles nodes → SlotsAre nodes slots r

-- a container's `device_type` and `compatible`
unfoldable pub is_container : List Token → Bool
is_container ts =
    is_container_type (bytes_of (value_in (bytes "device_type") ts)) && is_container_compatible (bytes_of (value_in (bytes "compatible") ts))

-- a container's own properties: its `isa` where their checks hold, or the first refusal
pub record ContainerRead (c : Node) (isa : Option ℕ) : Type 0 where
  pub hold : AllHold (container_properties c)
  pub is : unwrap_or isa 0 ≡ number (value_of c "isa")

abbrev pub ContainerIs : Node → CellResult → Type 0
ContainerIs c (Ok isa) = ContainerRead c isa
ContainerIs c (Err e) = FirstFailing (container_properties c) (number_of e) c.at

abbrev pub ReadsContainer : List ℕ → Blocks → ℕ → CellResult → Type 0
ReadsContainer tree b first r = (c : Node) → ((name : List ℕ) → value_in name c.behind ≡ value_in name (tree_tokens tree b first)) → ContainerIs c r

-- a container, its `isa` and the places of its features
pub record Contains (tree : List ℕ) (b : Blocks) (number_read : ℕ) (fs : ChildPlaces) (c : Node) : Type 0 where
  pub nodes : AtPlaces tree b fs (children c)
  pub isa : number_read ≡ number (value_of c "isa")

abbrev pub SomeContainer : List ℕ → Blocks → ℕ → ChildPlaces → Type 0
SomeContainer tree b isa fs = (c : Node) × Contains tree b isa fs c

-- the last of the reading: the features' properties, and their dependencies
unfoldable pub read_features : Node → Placed Record
read_features c =
    first_fault (refuse_at no_features) (in_order feature_checks [] (children c) ++ carrier_checks (children c) (children c)) (placed (record_of c))

abbrev pub ReadsRecord : List ℕ → Blocks → ℕ → ChildPlaces → Placed Record → Type 0
ReadsRecord tree b isa fs r = (c : Node) → Contains tree b isa fs c → r ≡ read_features c

-- a container, its `isa` and where its contents begin
pub record Opens (tree : List ℕ) (b : Blocks) (number_read first : ℕ) (c : Node) : Type 0 where
  pub like : Alike c.behind (tree_tokens tree b first)
  pub isa : number_read ≡ number (value_of c "isa")
  pub low : (i : ℕ) → (node_at (children c) i).at ≤ largest_tree

abbrev pub SomeOpen : List ℕ → Blocks → ℕ → ℕ → Type 0
SomeOpen tree b isa first = (c : Node) × Opens tree b isa first c

-- the reading behind the container's own properties: how many features, their names, and all that they hold
unfoldable pub read_children : Node → Placed Record
read_children c =
    first_fault (refuse_at no_features)
    (count_checks (children c) ++ (in_order name_checks [] (children c) ++ (in_order feature_checks [] (children c) ++ carrier_checks (children c) (children c))))
    (placed (record_of c))

abbrev pub ReadsChildren : List ℕ → Blocks → ℕ → ℕ → Placed Record → Type 0
ReadsChildren tree b isa first r = (c : Node) → Opens tree b isa first c → r ≡ read_children c
