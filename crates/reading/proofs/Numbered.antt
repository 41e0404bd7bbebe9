-- The checks of a reading have the numbers 8 to 13, and their places are those of nodes. Assumes nothing.
use mathlib.Core.List.{List, [], ◌∷◌, ◌++◌}
use Prim.Native.Nat.{ℕ, ◌≤◌}
use native.Mathlib.Omega.{arith}
use Rattle.refusal.specs.Refusal.{Fault}
use Rattle.refusal.specs.Checks.{Check}
use Rattle.record.specs.Record.{highest_hfscr_bit, highest_fscr_bit, highest_hwcap_bit, most_features}
use Rattle.nodes.specs.Nodes.{Node, node_at, children}
use Rattle.nodes.specs.Values.{value_of, low_bit}
use Rattle.reading.specs.Features.{in_order, name_checks, required_checks, optional_checks, number_checks, bit_checks, phandle_checks, dependencies_checks, feature_checks}
use Rattle.reading.specs.Dependencies.{cell_checks, carrier_checks}
use Rattle.reading.specs.Reading.{container_properties, container_checks, count_checks, read_checks}
use Rattle.reading.specs.Accepted.{dependencies_of}
use Rattle.reading.proofs.Places.{AllWithin, node-within, children-within}

module _ (limit : ℕ) where
  -- every fault of some checks has a number of the reading's and a place that is not past a limit
  abbrev pub Numbered : List (Check Fault) → Type 0
  Numbered [] = Unit {0}
  Numbered (c ∷ cs) = (8 ≤ c.fault.number) × (c.fault.number ≤ 13) × (c.fault.place ≤ limit) × Numbered cs

  numbered-both : (cs ds : List (Check Fault)) → Numbered cs → Numbered ds → Numbered (cs ++ ds)
  numbered-both [] ds h k = k
  numbered-both (c ∷ cs) ds h k = (h.0, h.1, h.2, numbered-both cs ds h.3 k)

  numbered-order : (checks : List Node → Node → List (Check Fault)) → ((before : List Node) (n : Node) → n.at ≤ limit → Numbered (checks before n))
      → (before ns : List Node)
      → AllWithin limit ns
      → Numbered (in_order checks before ns)
  unfolding in_order
  numbered-order checks f before [] h = tt
  numbered-order checks f before (n ∷ ns) h =
      numbered-both (checks before n) (in_order checks (before ++ n ∷ []) ns) (f before n h.0.0) (numbered-order checks f (before ++ n ∷ []) ns h.1)

  numbered-names : (before : List Node) (n : Node) → n.at ≤ limit → Numbered (name_checks before n)
  numbered-names before n h = omega arith

  numbered-feature : (before : List Node) (n : Node) → n.at ≤ limit → Numbered (feature_checks before n)
  unfolding feature_checks
  numbered-feature before n h =
      let at = n.at in
      let front =
      required_checks at (value_of n "isa")
      ++ required_checks at (value_of n "usable-privilege")
      ++ optional_checks at (value_of n "hv-support")
      ++ optional_checks at (value_of n "os-support")
      ++ bit_checks at highest_hfscr_bit (low_bit (value_of n "hv-support")) (value_of n "hfscr-bit-nr")
      ++ bit_checks at highest_fscr_bit (low_bit (value_of n "os-support")) (value_of n "fscr-bit-nr") in
      let back =
      number_checks at highest_hwcap_bit (value_of n "hwcap-bit-nr")
      ++ phandle_checks at before (value_of n "phandle")
      ++ dependencies_checks at (value_of n "dependencies") in
      let f : Numbered front = omega arith in
      let b : Numbered back = omega arith in
      numbered-both front back f b

  numbered-cells : (at : ℕ) (features : List Node) (ps : List ℕ) → at ≤ limit → Numbered (cell_checks at features ps)
  unfolding cell_checks
  numbered-cells at features [] h = tt
  numbered-cells at features (p ∷ ps) h = (omega arith, omega arith, h, numbered-cells at features ps h)

  numbered-carriers : (features ns : List Node) → AllWithin limit ns → Numbered (carrier_checks features ns)
  unfolding carrier_checks
  numbered-carriers features [] h = tt
  numbered-carriers features (n ∷ ns) h =
      numbered-both (cell_checks n.at features (dependencies_of n)) (carrier_checks features ns)
      (numbered-cells n.at features (dependencies_of n) h.0.0)
      (numbered-carriers features ns h.1)

  pub numbered-read : (start : ℕ) (containers : List Node) → start ≤ limit → AllWithin limit containers → Numbered (read_checks start containers)
  unfolding read_checks
  numbered-read start containers s w =
      let c = node_at containers 0 in
      let fs = children c in
      let front = container_checks start containers ++ container_properties c ++ count_checks fs in
      let names = in_order name_checks [] fs in
      let features = in_order feature_checks [] fs in
      let first = node-within limit containers 0 w in
      let second = node-within limit containers 1 w in
      let all = children-within limit 0 c.behind first.1 in
      let more = node-within limit fs most_features all in
      let h : Numbered front = omega (arith, first.0, second.0, more.0) in
      let k = numbered-both front names h (numbered-order name_checks numbered-names [] fs all) in
      let l = numbered-both (front ++ names) features k (numbered-order feature_checks numbered-feature [] fs all) in
      numbered-both (front ++ names ++ features) (carrier_checks fs fs) l (numbered-carriers fs fs all)
