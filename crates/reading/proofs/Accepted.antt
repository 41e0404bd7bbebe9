-- Where every check of a reading holds, the tree is as document 01 says, in every point. Assumes nothing.
use mathlib.Core.Path.{◌≡◌, subst}
use mathlib.Core.Bool.{Bool, true, false, not, false≢true}
use mathlib.Core.List.{List, [], ◌++◌}
use Prim.Native.Nat.{ℕ}
use native.Mathlib.Omega.{arith}
use lib.Dec.{T, leb, leb→le}
use lib.ListN.{length}
use Rattle.refusal.proofs.Checks.{Passes, passes-both}
use Rattle.header.specs.Header.{blocks_of}
use Rattle.names.specs.Names.{same_text, either}
use Rattle.record.specs.Record.{most_features, most_dependencies, highest_hfscr_bit, highest_fscr_bit, highest_hwcap_bit}
use Rattle.walk.specs.Checked.{check_tree}
use Rattle.nodes.specs.Nodes.{Node, node_at, children}
use Rattle.container.proofs.Exactly.{type-exactly, compatible-exactly}
use Rattle.nodes.specs.Values.{Value, value_of, bytes_of, is_given, is_cell, is_cell_or_missing, is_cells, number, low_bit}
use Rattle.reading.specs.Features.{in_order, some, name_checks, feature_checks, is_phandle, is_repeated}
use Rattle.reading.specs.Dependencies.{carrier_checks}
use Rattle.reading.specs.Reading.{containers_of, container_checks, container_properties, count_checks, read_checks}
use Rattle.reading.specs.Accepted.{checks_of, dependencies_of, NumberForm, FeatureForm, ContainerForm, Accepted}
use Rattle.reading.proofs.Passed.{holds-true, holds-false, passes-order, passes-cell, passes-carriers}

pub given-where : (required given : Bool) → T (either (not required) given) → required ≡ true → given ≡ true
given-where true given h e = holds-true given h
given-where false given h e = absurd (false≢true e)

number-form : (highest : ℕ) (v : Value) → T (is_cell_or_missing v) → T (leb (number v) highest) → NumberForm highest v
number-form highest v f r = record { form = holds-true (is_cell_or_missing v) f; range = leb→le (number v) highest r }

feature-form : (before : List Node) (n : Node) → Passes (name_checks before n) → Passes (feature_checks before n) → FeatureForm before n
unfolding feature_checks
feature-form before n h p =
    let q = p.1.1.1.1 in
    let r = q.1.1.1.1.1.1.1.1 in
    record {
      isa = holds-true (is_cell (value_of n "isa")) p.0;
      privilege = holds-true (is_cell (value_of n "usable-privilege")) p.1.0;
      hypervisor = holds-true (is_cell_or_missing (value_of n "hv-support")) p.1.1.0;
      system = holds-true (is_cell_or_missing (value_of n "os-support")) p.1.1.1.0;
      hfscr = number-form highest_hfscr_bit (value_of n "hfscr-bit-nr") q.1.0 q.1.1.0;
      fscr = number-form highest_fscr_bit (value_of n "fscr-bit-nr") q.1.1.1.1.0 q.1.1.1.1.1.0;
      hwcap = number-form highest_hwcap_bit (value_of n "hwcap-bit-nr") q.1.1.1.1.1.1.0 q.1.1.1.1.1.1.1.0;
      hfscr_given = given-where (low_bit (value_of n "hv-support")) (is_given (value_of n "hfscr-bit-nr")) q.0;
      fscr_given = given-where (low_bit (value_of n "os-support")) (is_given (value_of n "fscr-bit-nr")) q.1.1.1.0;
      phandle = holds-true (is_cell_or_missing (value_of n "phandle")) r.0;
      phandle_range = holds-true (is_phandle (value_of n "phandle")) r.1.0;
      phandle_once = holds-false (is_repeated before (value_of n "phandle")) r.1.1.0;
      dependencies = holds-true (is_cells (value_of n "dependencies")) r.1.1.1.0;
      few = leb→le (length (dependencies_of n)) most_dependencies r.1.1.1.1.0;
      name_once = holds-false (some (λ (m : Node). same_text m.name n.name) before) h.0;
    }

module _ (start : ℕ) (containers : List Node) (p : Passes (read_checks start containers)) where
  container-form : (length containers ≡ 1) × ContainerForm (node_at containers 0)
  unfolding read_checks
  container-form =
      let c = node_at containers 0 in
      let fs = children c in
      let front = container_checks start containers ++ container_properties c ++ count_checks fs in
      let names = in_order name_checks [] fs in
      let features = in_order feature_checks [] fs in
      let p1 = passes-both (front ++ names ++ features) (carrier_checks fs fs) p in
      let p2 = passes-both (front ++ names) features p1.0 in
      let p3 = passes-both front names p2.0 in
      let q = p3.0 in
      let least = leb→le 1 (length containers) q.0 in
      let most = leb→le (length containers) 1 q.1.0 in (
        omega arith,
        record {
          strings = record {
            device_type = (type-exactly (bytes_of (value_of c "device_type"))).0 (holds-true _ q.1.1.0);
            compatible = (compatible-exactly (bytes_of (value_of c "compatible"))).0 (holds-true _ q.1.1.1.0);
          };
          isa = holds-true _ q.1.1.1.1.0;
          few = leb→le (length fs) most_features q.1.1.1.1.1.0;
          features = λ xs n ys e.
              feature-form xs n (passes-order name_checks [] xs n ys (subst (λ (l : List Node). Passes (in_order name_checks [] l)) e p3.1))
              (passes-order feature_checks [] xs n ys (subst (λ (l : List Node). Passes (in_order feature_checks [] l)) e p2.1));
          found = λ xs n ys e j l.
              passes-cell n.at fs (dependencies_of n) j l (passes-carriers fs xs n ys (subst (λ (l : List Node). Passes (carrier_checks fs l)) e p1.1));
        },
      )

pub passes-accepted : (tree : List ℕ) → (check_tree tree).number ≡ 0 → Passes (checks_of tree) → Accepted tree
passes-accepted tree w p =
    let f = container-form (blocks_of tree).start (containers_of tree (blocks_of tree)) p in record { walked = w; once = f.0; form = f.1 }
