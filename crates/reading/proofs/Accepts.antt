-- A reading is not refused exactly where the tree is as document 01 says. Assumes nothing.
use mathlib.Core.Path.{◌≡◌, refl, sym, ap, subst}
use mathlib.Core.Bool.{Bool, true, false, not}
use mathlib.Core.List.{List, [], ◌∷◌, ◌++◌, append-nil, append_assoc}
use mathlib.Core.Logic.{◌↔◌}
use Prim.Native.Nat.{ℕ, suc, ◌<◌}
use native.Mathlib.Omega.{arith}
use lib.Dec.{T, le→leb}
use lib.ListN.{length, get_or}
use Rattle.refusal.specs.Refusal.{Fault, Placed, placed, refuse_at}
use Rattle.refusal.specs.Checks.{Check}
use Rattle.refusal.proofs.Checks.{Passes, passes, passes-join}
use Rattle.header.specs.Header.{blocks_of}
use Rattle.names.specs.Names.{either}
use Rattle.positions.specs.Below.{is_somewhere}
use Rattle.record.specs.declared.Record.{Record}
use Rattle.record.specs.Record.{most_features, most_dependencies, highest_hfscr_bit, highest_fscr_bit, highest_hwcap_bit, no_features}
use Rattle.walk.specs.Checked.{layout_of}
use Rattle.walk.specs.Faults.{CheckEnds, answered, header_refused, walk_refused}
use Rattle.walk.specs.declared.Layout.{Layout}
use Rattle.walk.proofs.CheckEnds.{check-ends}
use Rattle.nodes.specs.Nodes.{Node, node_at, children}
use Rattle.container.proofs.Exactly.{type-exactly, compatible-exactly}
use Rattle.nodes.specs.Values.{Value, value_of, bytes_of, is_given, number, low_bit}
use Rattle.reading.specs.Features.{in_order, name_checks, required_checks, optional_checks, number_checks, bit_checks, phandle_checks, dependencies_checks, feature_checks}
use Rattle.reading.specs.Dependencies.{carrier, cell_checks, carrier_checks}
use Rattle.reading.specs.Reading.{containers_of, container_checks, container_properties, count_checks, read_checks, record_of, after_walk, read_record}
use Rattle.reading.specs.Accepted.{container_of, checks_of, dependencies_of, NumberForm, GivenWhere, FeatureForm, ContainerForm, Accepted}
use Rattle.reading.proofs.Ends.{read-accepted}

pub true-holds : {b : Bool} → b ≡ true → T b
true-holds h = subst T (sym h) tt

false-holds : {b : Bool} → b ≡ false → T (not b)
false-holds h = subst (λ (x : Bool). T (not x)) (sym h) tt

-- the checks of nodes in order hold where those of each of them do
module _ (checks : List Node → Node → List (Check Fault)) where
  order-passes : (before ns : List Node) → ((xs : List Node) (n : Node) (ys : List Node) → ns ≡ xs ++ n ∷ ys → Passes (checks (before ++ xs) n)) → Passes (in_order checks before ns)
  unfolding in_order
  order-passes before [] f = tt
  order-passes before (n ∷ ns) f =
      passes-join (checks before n) (in_order checks (before ++ n ∷ []) ns) (subst (λ (l : List Node). Passes (checks l n)) (append-nil before) (f [] n ns refl))
      (order-passes (before ++ n ∷ []) ns
      (λ xs m ys e. subst (λ (l : List Node). Passes (checks l m)) (sym (append_assoc before (n ∷ []) xs)) (f (n ∷ xs) m ys (ap (λ (l : List Node). n ∷ l) e))))

cells-pass : (at : ℕ) (features : List Node) (ps : List ℕ) → ((j : ℕ) → j < length ps → is_somewhere (carrier features (get_or ps j 0)) ≡ true) → Passes (cell_checks at features ps)
unfolding cell_checks
cells-pass at features [] f = tt
cells-pass at features (p ∷ ps) f = (true-holds (f 0 (omega arith)), cells-pass at features ps (λ j l. f (suc j) (omega arith)))

carriers-pass : (features ns : List Node)
    → ((xs : List Node) (n : Node) (ys : List Node) → ns ≡ xs ++ n ∷ ys → (j : ℕ) → j < length (dependencies_of n) → is_somewhere (carrier features (get_or (dependencies_of n) j 0)) ≡ true)
    → Passes (carrier_checks features ns)
unfolding carrier_checks
carriers-pass features [] f = tt
carriers-pass features (n ∷ ns) f =
    passes-join (cell_checks n.at features (dependencies_of n)) (carrier_checks features ns)
    (cells-pass n.at features (dependencies_of n) (f [] n ns refl))
    (carriers-pass features ns (λ xs m ys e. f (n ∷ xs) m ys (ap (λ (l : List Node). n ∷ l) e)))

-- the checks of one feature
pub where-given : (required given : Bool) → (required ≡ true → given ≡ true) → T (either (not required) given)
where-given true given f = true-holds (f refl)
where-given false given f = tt

number-passes : (at highest : ℕ) (v : Value) → NumberForm highest v → Passes (number_checks at highest v)
number-passes at highest v f = (true-holds f.form, (le→leb (number v) highest f.range, tt))

bit-passes : (at highest : ℕ) (support v : Value) → NumberForm highest v → GivenWhere support v → Passes (bit_checks at highest (low_bit support) v)
bit-passes at highest support v f g = (where-given (low_bit support) (is_given v) g, number-passes at highest v f)

abbrev front_checks : Node → List (Check Fault)
front_checks n =
    required_checks n.at (value_of n "isa")
    ++ required_checks n.at (value_of n "usable-privilege")
    ++ optional_checks n.at (value_of n "hv-support")
    ++ optional_checks n.at (value_of n "os-support")
    ++ bit_checks n.at highest_hfscr_bit (low_bit (value_of n "hv-support")) (value_of n "hfscr-bit-nr")

feature-passes : (before : List Node) (n : Node) → FeatureForm before n → Passes (feature_checks before n)
unfolding feature_checks
feature-passes before n f =
    let fscr = bit_checks n.at highest_fscr_bit (low_bit (value_of n "os-support")) (value_of n "fscr-bit-nr") in
    let hwcap = number_checks n.at highest_hwcap_bit (value_of n "hwcap-bit-nr") in
    let phandle = phandle_checks n.at before (value_of n "phandle") in
    let dependencies = dependencies_checks n.at (value_of n "dependencies") in
    let h = bit-passes n.at _ (value_of n "hv-support") (value_of n "hfscr-bit-nr") f.hfscr f.hfscr_given in
    let s = bit-passes n.at _ (value_of n "os-support") (value_of n "fscr-bit-nr") f.fscr f.fscr_given in
    let w = number-passes n.at _ (value_of n "hwcap-bit-nr") f.hwcap in
    let p : Passes phandle = (true-holds f.phandle, (true-holds f.phandle_range, (false-holds f.phandle_once, tt))) in
    let d : Passes dependencies = (true-holds f.dependencies, (le→leb (length (dependencies_of n)) most_dependencies f.few, tt)) in
    let front : Passes (front_checks n) = (true-holds f.isa, (true-holds f.privilege, (true-holds f.hypervisor, (true-holds f.system, h)))) in
    passes-join (front_checks n ++ fscr ++ hwcap ++ phandle) dependencies
    (passes-join (front_checks n ++ fscr ++ hwcap) phandle (passes-join (front_checks n ++ fscr) hwcap (passes-join (front_checks n) fscr front s) w) p) d

checks-pass : (start : ℕ) (containers : List Node) → length containers ≡ 1 → ContainerForm (node_at containers 0) → Passes (read_checks start containers)
unfolding read_checks
checks-pass start containers one form =
    let c = node_at containers 0 in
    let fs = children c in
    let front = container_checks start containers ++ container_properties c ++ count_checks fs in
    let names = in_order name_checks [] fs in
    let features = in_order feature_checks [] fs in
    let least = le→leb 1 (length containers) (omega arith) in
    let most = le→leb (length containers) 1 (omega arith) in
    let most-features = le→leb (length fs) most_features form.few in
    let typed = true-holds ((type-exactly (bytes_of (value_of c "device_type"))).1 form.strings.device_type) in
    let compatible = true-holds ((compatible-exactly (bytes_of (value_of c "compatible"))).1 form.strings.compatible) in
    let h : Passes front = (least, (most, (typed, (compatible, (true-holds form.isa, (most-features, tt)))))) in
    let k = passes-join front names h (order-passes name_checks [] fs (λ xs n ys e. (false-holds (form.features xs n ys e).name_once, tt))) in
    let l = passes-join (front ++ names) features k (order-passes feature_checks [] fs (λ xs n ys e. feature-passes xs n (form.features xs n ys e))) in
    passes-join (front ++ names ++ features) (carrier_checks fs fs) l (carriers-pass fs fs form.found)

module _ (tree : List ℕ) where
  after_check : {x : Placed Layout} → CheckEnds tree x → x.number ≡ 0 → Passes (checks_of tree) → after_walk tree x ≡ placed (record_of (container_of tree))
  unfolding layout_of
  after_check (answered h w) z p = passes (refuse_at no_features) (checks_of tree) (placed (record_of (container_of tree))) p
  after_check (header_refused h l m q) z p = absurd (omega arith)
  after_check (walk_refused h f) z p = absurd (omega (arith, f.least))

  pub accepted-read : Accepted tree → read_record tree ≡ placed (record_of (container_of tree))
  unfolding read_record
  accepted-read a =
      after_check (check-ends tree) a.walked (checks-pass (blocks_of tree).start (containers_of tree (blocks_of tree)) a.once a.form)

  pub read-accepts : (read_record tree).number ≡ 0 ↔ Accepted tree
  read-accepts = (read-accepted tree, λ a. ap (λ (r : Placed Record). r.number) (accepted-read a))
