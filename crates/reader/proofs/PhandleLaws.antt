-- What is noted of the features' phandles. Assumes nothing.
use mathlib.Core.Path.{◌≡◌, refl, sym, ap, subst, ◌∙◌}
use mathlib.Core.Bool.{Bool}
use mathlib.Core.List.{List}
use Prim.Native.Nat.{ℕ, ◌<◌}
use native.Mathlib.Omega.{arith}
use lib.ListN.{length, get_or}
use Rattle.std.specs.Prelude.{Option, None, Some}
use Rattle.positions.specs.Below.{first_that}
use Rattle.positions.proofs.FirstLaws.{IsFirst, first-that, first-is}
use Rattle.record.specs.Record.{most_features}
use Rattle.nodes.specs.Nodes.{Node, node_at}
use Rattle.nodes.specs.Values.{Value, missing, value, value_of}
use Rattle.reading.specs.Features.{is_carried, cell_of}
use Rattle.reading.specs.Dependencies.{carries_at, carrier}
use Rattle.nodes.proofs.RowLaws.{row-node}
use Rattle.feature.specs.Phandles.{is_phandle, is_at}
use Rattle.reader.specs.Parts.{noted_of, ArePhandles}

noted-value : (v : Value) (p : ℕ) → is_phandle p (cell_of v) ≡ is_carried p v
noted-value missing p = refl
noted-value (value bs) p = refl

-- a feature carries a phandle where that is what is noted of it
noted-carries : (phandles : List (Option ℕ)) (nodes : List Node) → ArePhandles phandles nodes → (p i : ℕ) → i < length nodes
    → is_at phandles p i ≡ carries_at nodes p i
unfolding is_at
noted-carries phandles nodes h p i k =
    ap (λ (xs : List (Option ℕ)). is_phandle p (get_or xs i None)) h
    ∙ ap (is_phandle p) (row-node noted_of most_features None nodes i k)
    ∙ noted-value (value_of (node_at nodes i) "phandle") p

-- what the search answers is the first
pub is-first : (test : ℕ → Bool) (n : ℕ) {r x : Option ℕ} → r ≡ first_that n test → r ≡ x → IsFirst n test x
is-first test n e k = subst (IsFirst n test) (sym e ∙ k) (first-that n test)

-- two tests that agree
first-same : (n : ℕ) (p q : ℕ → Bool) → ((i : ℕ) → i < n → p i ≡ q i) → (r : Option ℕ) → IsFirst n p r → IsFirst n q r
first-same n p q e None f = λ i h. sym (e i h) ∙ f i h
first-same n p q e (Some r) f = (f.0, sym (e r f.0) ∙ f.1, λ i h. sym (e i (omega (arith, f.0))) ∙ f.2 i h)

-- it is the carrier
pub carrier-is : (phandles : List (Option ℕ)) (nodes : List Node) → ArePhandles phandles nodes → (p : ℕ) {n : ℕ} {r : Option ℕ} → n ≡ length nodes
    → IsFirst n (is_at phandles p) r → r ≡ carrier nodes p
carrier-is phandles nodes h p {n} {r} count f =
    first-is (length nodes) (carries_at nodes p)
    (first-same (length nodes) (is_at phandles p) (carries_at nodes p) (noted-carries phandles nodes h p) r
    (subst (λ (m : ℕ). IsFirst m (is_at phandles p) r) count f))
