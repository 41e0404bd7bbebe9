-- The features: their names and their properties (document 01, "The feature record").
use Rattle.std.specs.Prelude.{ℕ, Bool, true, false, not, List, [], ◌∷◌, ◌++◌, Option, None, Some, leb, eqb, length}
use Rattle.refusal.specs.Refusal.{Fault, fault}
use Rattle.refusal.specs.Checks.{Check, check}
use Rattle.names.specs.Names.{same_text, either}
use Rattle.record.specs.declared.Feature.{Feature}
use Rattle.record.specs.declared.Property.{Property}
use Rattle.record.specs.declared.Property.TheVariants.{Isa, UsablePrivilege, HvSupport, OsSupport, HfscrBitNr, FscrBitNr, HwcapBitNr, Phandle, Dependencies}
use Rattle.record.specs.Record.{highest_hfscr_bit, highest_fscr_bit, highest_hwcap_bit, most_dependencies}
use Rattle.record.specs.Cells.{feature_with}
use Rattle.nodes.specs.Nodes.{Node}
use Rattle.nodes.specs.Values.{Value, missing, value, value_of, is_given, is_cell, is_cell_or_missing, is_cells, number, low_bit, cells_of}

-- the checks of each node, by the nodes before it
unfoldable pub in_order : (List Node → Node → List (Check Fault)) → List Node → List Node → List (Check Fault)
in_order checks before [] = []
in_order checks before (n ∷ ns) = checks before n ++ in_order checks (before ++ n ∷ []) ns

-- one of some nodes passes a test
unfoldable pub some : (Node → Bool) → List Node → Bool
some p [] = false
some p (n ∷ ns) = either (p n) (some p ns)

-- "an earlier feature with the same name" is 9 at the later one
abbrev pub name_checks : List Node → Node → List (Check Fault)
name_checks before n = check (not (some (λ (m : Node). same_text m.name n.name) before)) (fault 9 n.at) ∷ []

-- a feature carries a phandle
abbrev pub is_carried : ℕ → Value → Bool
is_carried p missing = false
is_carried p (value bs) = eqb (number (value bs)) p

abbrev pub carries : ℕ → Node → Bool
carries p n = is_carried p (value_of n "phandle")

-- "neither 0 nor all ones"
abbrev pub is_phandle : Value → Bool
is_phandle missing = true
is_phandle (value bs) = not (either (eqb (number (value bs)) 0) (eqb (number (value bs)) 0xffffffff))

-- one "that an earlier feature carries"
abbrev pub is_repeated : List Node → Value → Bool
is_repeated before missing = false
is_repeated before (value bs) = some (carries (number (value bs))) before

-- "required, one cell"
abbrev pub required_checks : ℕ → Value → List (Check Fault)
required_checks at v = check (is_cell v) (fault 11 at) ∷ []

-- "optional, one cell"
abbrev pub optional_checks : ℕ → Value → List (Check Fault)
optional_checks at v = check (is_cell_or_missing v) (fault 11 at) ∷ []

-- `hwcap-bit-nr`: "0 to 63"; "length before range"; a missing one is no refusal (A2)
abbrev pub number_checks : ℕ → ℕ → Value → List (Check Fault)
number_checks at highest v = check (is_cell_or_missing v) (fault 11 at) ∷ check (leb (number v) highest) (fault 12 at) ∷ []

-- `hfscr-bit-nr`, `fscr-bit-nr`: the same, "required where that bit 0 is set"
abbrev pub bit_checks : ℕ → ℕ → Bool → Value → List (Check Fault)
bit_checks at highest required v = check (either (not required) (is_given v)) (fault 11 at) ∷ number_checks at highest v

-- "optional, one cell, neither 0 nor all ones; one that an earlier feature carries is 9"
abbrev pub phandle_checks : ℕ → List Node → Value → List (Check Fault)
phandle_checks at before v =
    check (is_cell_or_missing v) (fault 11 at) ∷ check (is_phandle v) (fault 12 at) ∷ check (not (is_repeated before v)) (fault 9 at) ∷ []

-- "optional, whole cells, none to 16"
abbrev pub dependencies_checks : ℕ → Value → List (Check Fault)
dependencies_checks at v = check (is_cells v) (fault 11 at) ∷ check (leb (length (cells_of v)) most_dependencies) (fault 8 at) ∷ []

-- "each feature, in this property order; place is its begin token"
unfoldable pub feature_checks : List Node → Node → List (Check Fault)
feature_checks before n =
    required_checks n.at (value_of n "isa")
    ++ required_checks n.at (value_of n "usable-privilege")
    ++ optional_checks n.at (value_of n "hv-support")
    ++ optional_checks n.at (value_of n "os-support")
    ++ bit_checks n.at highest_hfscr_bit (low_bit (value_of n "hv-support")) (value_of n "hfscr-bit-nr")
    ++ bit_checks n.at highest_fscr_bit (low_bit (value_of n "os-support")) (value_of n "fscr-bit-nr")
    ++ number_checks n.at highest_hwcap_bit (value_of n "hwcap-bit-nr")
    ++ phandle_checks n.at before (value_of n "phandle")
    ++ dependencies_checks n.at (value_of n "dependencies")

-- what a node has of a property of one cell, and of its dependencies: how many
abbrev pub cell_of : Value → Option ℕ
cell_of missing = None
cell_of (value bs) = Some (number (value bs))

abbrev pub count_of : Value → Option ℕ
count_of missing = None
count_of (value bs) = Some (length (cells_of (value bs)))

-- its cells: "Absent and zero differ"
unfoldable pub cell_in : Node → Property → Option ℕ
cell_in n Isa = cell_of (value_of n "isa")
cell_in n UsablePrivilege = cell_of (value_of n "usable-privilege")
cell_in n HvSupport = cell_of (value_of n "hv-support")
cell_in n OsSupport = cell_of (value_of n "os-support")
cell_in n HfscrBitNr = cell_of (value_of n "hfscr-bit-nr")
cell_in n FscrBitNr = cell_of (value_of n "fscr-bit-nr")
cell_in n HwcapBitNr = cell_of (value_of n "hwcap-bit-nr")
cell_in n Phandle = cell_of (value_of n "phandle")
cell_in n Dependencies = count_of (value_of n "dependencies")

-- "its begin token's offset, its cells as read and which properties were given"
unfoldable pub feature_of : Node → Feature
feature_of n = feature_with n.at (cell_in n)
