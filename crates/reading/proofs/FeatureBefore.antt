-- What A2 withdraws of document 01's checks of a feature: that one with the user bit has a `hwcap-bit-nr`, and nothing else; the feature
-- read is as it was. Assumes nothing.
use Prim.Native.Nat.{ℕ, ◌+◌, ◌*◌}
use mathlib.Core.Path.{◌≡◌, refl}
use mathlib.Core.List.{List, [], ◌∷◌, ◌++◌}
use mathlib.Core.Logic.{◌↔◌}
use lib.ListN.{length}
use Rattle.refusal.specs.Refusal.{Fault}
use Rattle.refusal.specs.Checks.{Check}
use Rattle.refusal.proofs.Checks.{Passes, passes-both, passes-join}
use Rattle.positions.specs.Below.{one_if}
use Rattle.record.specs.declared.Feature.{Feature}
use Rattle.record.specs.Record.{highest_hfscr_bit, highest_fscr_bit, highest_hwcap_bit}
use Rattle.record.specs.Cells.{given_in, number_in, word_of_bits, feature_with}
use Rattle.nodes.specs.Nodes.{Node}
use Rattle.nodes.specs.Values.{Value, missing, value, value_of, is_given, number, low_bit, cells_of}
use Rattle.reading.specs.Features.{required_checks, optional_checks, number_checks, bit_checks, phandle_checks, dependencies_checks, feature_checks, cell_of, count_of, cell_in, feature_of}
use Rattle.reading.specs.Accepted.{GivenWhere}
use Rattle.reading.proofs.Accepted.{given-where}
use Rattle.reading.proofs.Accepts.{where-given}
use Rattle.reading.proofs.Cells.{number-count}

-- a feature with the user bit has a capability bit
abbrev pub HasCapability : Node → Type 0
HasCapability n = GivenWhere (value_of n "usable-privilege") (value_of n "hwcap-bit-nr")

-- the checks of then: `hwcap-bit-nr` is one more bit number that is required
module _ (before : List Node) (n : Node) where
  abbrev front : List (Check Fault)
  front =
      required_checks n.at (value_of n "isa")
      ++ required_checks n.at (value_of n "usable-privilege")
      ++ optional_checks n.at (value_of n "hv-support")
      ++ optional_checks n.at (value_of n "os-support")
      ++ bit_checks n.at highest_hfscr_bit (low_bit (value_of n "hv-support")) (value_of n "hfscr-bit-nr")
      ++ bit_checks n.at highest_fscr_bit (low_bit (value_of n "os-support")) (value_of n "fscr-bit-nr")

  abbrev back : List (Check Fault)
  back = phandle_checks n.at before (value_of n "phandle") ++ dependencies_checks n.at (value_of n "dependencies")

  abbrev pub feature_checks_before : List (Check Fault)
  feature_checks_before = front ++ bit_checks n.at highest_hwcap_bit (low_bit (value_of n "usable-privilege")) (value_of n "hwcap-bit-nr") ++ back

  abbrev others : List (Check Fault)
  others = number_checks n.at highest_hwcap_bit (value_of n "hwcap-bit-nr") ++ back

  pub then-now : Passes feature_checks_before → Passes (feature_checks before n) × HasCapability n
  unfolding feature_checks
  then-now p =
      let q = passes-both front (bit_checks n.at highest_hwcap_bit (low_bit (value_of n "usable-privilege")) (value_of n "hwcap-bit-nr") ++ back) p in
      (passes-join front others q.0 q.1.1, given-where (low_bit (value_of n "usable-privilege")) (is_given (value_of n "hwcap-bit-nr")) q.1.0)

  pub now-then : Passes (feature_checks before n) → HasCapability n → Passes feature_checks_before
  unfolding feature_checks
  now-then p g =
      let q = passes-both front others p in
      passes-join front (bit_checks n.at highest_hwcap_bit (low_bit (value_of n "usable-privilege")) (value_of n "hwcap-bit-nr") ++ back) q.0
      (where-given (low_bit (value_of n "usable-privilege")) (is_given (value_of n "hwcap-bit-nr")) g, q.1)

  -- all held then: all hold now, and no capability bit is missing
  pub checks-before : Passes feature_checks_before ↔ (Passes (feature_checks before n) × HasCapability n)
  checks-before = (then-now, λ h. now-then h.0 h.1)

-- the feature of then, field by field
abbrev given_before : List Value → ℕ
given_before [] = 0
given_before (v ∷ vs) = one_if (is_given v) + 2 * given_before vs

abbrev pub feature_before : Node → Feature
feature_before n = record {
  offset = n.at;
  given =
      given_before
      (value_of n "isa"
      ∷ value_of n "usable-privilege"
      ∷ value_of n "hv-support"
      ∷ value_of n "os-support"
      ∷ value_of n "hfscr-bit-nr"
      ∷ value_of n "fscr-bit-nr"
      ∷ value_of n "hwcap-bit-nr"
      ∷ value_of n "phandle"
      ∷ value_of n "dependencies"
      ∷ []);
  isa = number (value_of n "isa");
  usable_privilege = number (value_of n "usable-privilege");
  hv_support = number (value_of n "hv-support");
  os_support = number (value_of n "os-support");
  hfscr_bit_nr = number (value_of n "hfscr-bit-nr");
  fscr_bit_nr = number (value_of n "fscr-bit-nr");
  hwcap_bit_nr = number (value_of n "hwcap-bit-nr");
  phandle = number (value_of n "phandle");
  dependencies = length (cells_of (value_of n "dependencies"));
}

given-cell : (v : Value) → given_in (cell_of v) ≡ is_given v
given-cell missing = refl
given-cell (value bs) = refl

given-count : (v : Value) → given_in (count_of v) ≡ is_given v
given-count missing = refl
given-count (value bs) = refl

number-cell : (v : Value) → number_in (cell_of v) ≡ number v
number-cell missing = refl
number-cell (value bs) = refl

pub feature-before : (n : Node) → feature_of n ≡ feature_before n
unfolding feature_of feature_with cell_in word_of_bits
feature-before n =
    λ k. record {
      offset = n.at;
      given =
          one_if (given-cell (value_of n "isa") k)
          + 2 * (one_if (given-cell (value_of n "usable-privilege") k)
          + 2 * (one_if (given-cell (value_of n "hv-support") k)
          + 2 * (one_if (given-cell (value_of n "os-support") k)
          + 2 * (one_if (given-cell (value_of n "hfscr-bit-nr") k)
          + 2 * (one_if (given-cell (value_of n "fscr-bit-nr") k)
          + 2 * (one_if (given-cell (value_of n "hwcap-bit-nr") k)
          + 2 * (one_if (given-cell (value_of n "phandle") k) + 2 * (one_if (given-count (value_of n "dependencies") k) + 2 * 0))))))));
      isa = number-cell (value_of n "isa") k;
      usable_privilege = number-cell (value_of n "usable-privilege") k;
      hv_support = number-cell (value_of n "hv-support") k;
      os_support = number-cell (value_of n "os-support") k;
      hfscr_bit_nr = number-cell (value_of n "hfscr-bit-nr") k;
      fscr_bit_nr = number-cell (value_of n "fscr-bit-nr") k;
      hwcap_bit_nr = number-cell (value_of n "hwcap-bit-nr") k;
      phandle = number-cell (value_of n "phandle") k;
      dependencies = number-count (value_of n "dependencies") k;
    }
