-- Phandles that resolve, one by one, and the rows of slots that they fill, feature by feature. Assumes nothing.
use mathlib.Core.Path.{◌≡◌, refl, sym, ap, ap₂, subst}
use mathlib.Core.Bool.{Bool, true, false, false≢true}
use mathlib.Core.List.{List, [], ◌∷◌, ◌++◌}
use Prim.Native.Nat.{ℕ, zero, suc, ◌<◌}
use native.Mathlib.Omega.{arith}
use lib.ListN.{length, get_or}
use Rattle.std.specs.Prelude.{Option, None, Some}
use Rattle.refusal.specs.Refusal.{Fault, fault}
use Rattle.refusal.specs.Checks.{Check, check}
use Rattle.positions.specs.Below.{is_somewhere}
use Rattle.nodes.specs.Nodes.{Node}
use Rattle.reading.specs.Dependencies.{carrier, cell_checks, Resolution, unknown, found, one_position, followed_by, positions_of}
use Rattle.reading.specs.Ends.{AllHold, FirstFailing}
use Rattle.reading.proofs.CheckLaws.{fail-left, fail-right, fail-here}

-- a carrier that is somewhere is at a position
pub somewhere-at : (x : Option ℕ) → is_somewhere x ≡ true → (k : ℕ) × (x ≡ Some k)
somewhere-at None h = absurd (false≢true h)
somewhere-at (Some k) h = (k, refl)

-- nothing is no list of positions, and a list is itself only
abbrev is_found : Resolution → Bool
is_found unknown = false
is_found (found is) = true

unknown≢found : {A : Type 0} {is : List ℕ} → unknown ≡ found is → A
unknown≢found e = absurd (false≢true (ap is_found e))

found-same : {is js : List ℕ} → found is ≡ found js → is ≡ js
found-same e = cc

module _ (features : List Node) where
  -- the positions of the carriers of some phandles
  pub data Carriers : List ℕ → List ℕ → Type 0 where
    no_carriers : Carriers [] []
    next_carrier : {p k : ℕ} {ps ks : List ℕ} → carrier features p ≡ Some k → Carriers ps ks → Carriers (p ∷ ps) (k ∷ ks)

  pub carriers-length : {ps ks : List ℕ} → Carriers ps ks → length ks ≡ length ps
  carriers-length no_carriers = refl
  carriers-length (next_carrier e c) = ap suc (carriers-length c)

  pub carriers-at : {ps ks : List ℕ} → Carriers ps ks → (j : ℕ) → j < length ps → carrier features (get_or ps j 0) ≡ Some (get_or ks j 0)
  carriers-at no_carriers j h = absurd (omega arith)
  carriers-at (next_carrier e c) zero h = e
  carriers-at (next_carrier e c) (suc j) h = carriers-at c j (omega arith)

  pub carriers-more : {ps ks : List ℕ} (p : ℕ) {k : ℕ} → Carriers ps ks → carrier features p ≡ Some k → Carriers (ps ++ p ∷ []) (ks ++ k ∷ [])
  carriers-more p no_carriers h = next_carrier h no_carriers
  carriers-more p (next_carrier e c) h = next_carrier e (carriers-more p c h)

  pub carriers-hold : {ps ks : List ℕ} → Carriers ps ks → (place : ℕ) → AllHold (cell_checks place features ps)
  unfolding cell_checks
  carriers-hold no_carriers place = tt
  carriers-hold (next_carrier e c) place = (ap is_somewhere e, carriers-hold c place)

  pub all-somewhere : (ps : List ℕ) → ((j : ℕ) → j < length ps → is_somewhere (carrier features (get_or ps j 0)) ≡ true) → (ks : List ℕ) × Carriers ps ks
  all-somewhere [] h = ([], no_carriers)
  all-somewhere (p ∷ ps) h =
      let k = somewhere-at (carrier features p) (h 0 (omega arith)) in
      let c = all-somewhere ps (λ j l. h (suc j) (omega arith)) in
      (k.0 ∷ c.0, next_carrier k.1 c.1)

  -- they are what the phandles resolve to, and nothing else is
  pub carriers-found : {ps ks : List ℕ} → Carriers ps ks → positions_of features ps ≡ found ks
  unfolding positions_of
  carriers-found no_carriers = refl
  carriers-found (next_carrier e c) = ap₂ followed_by (ap one_position e) (carriers-found c)

  pub found-carriers : (ps : List ℕ) {ks : List ℕ} → positions_of features ps ≡ found ks → Carriers ps ks
  unfolding positions_of
  found-carriers [] e = subst (Carriers []) (found-same e) no_carriers
  found-carriers (p ∷ ps) {ks} e = go (carrier features p) refl (positions_of features ps) (λ js c. found-carriers ps c) e
    where
      go : (x : Option ℕ) → carrier features p ≡ x → (r : Resolution) → ((js : List ℕ) → r ≡ found js → Carriers ps js)
          → followed_by (one_position x) r ≡ found ks → Carriers (p ∷ ps) ks
      go None a r b c = unknown≢found c
      go (Some k) a unknown b c = unknown≢found c
      go (Some k) a (found js) b c = subst (Carriers (p ∷ ps)) (found-same c) (next_carrier a (b js refl))

  -- a phandle that no feature carries
  pub unknown-behind : {ps ks : List ℕ} (p : ℕ) (qs : List ℕ) → Carriers ps ks → carrier features p ≡ None → positions_of features (ps ++ p ∷ qs) ≡ unknown
  unfolding positions_of
  unknown-behind p qs no_carriers h = ap (λ (x : Option ℕ). followed_by (one_position x) (positions_of features qs)) h
  unknown-behind p qs (next_carrier e c) h = ap₂ followed_by (ap one_position e) (unknown-behind p qs c h)

  pub unknown-fails : (place : ℕ) (ps : List ℕ) → positions_of features ps ≡ unknown → FirstFailing (cell_checks place features ps) 13 place
  unfolding positions_of cell_checks
  unknown-fails place [] e = unknown≢found (sym e)
  unknown-fails place (p ∷ ps) e = go (carrier features p) refl (positions_of features ps) (unknown-fails place ps) e
    where
      here : List (Check Fault)
      here = check (is_somewhere (carrier features p)) (fault 13 place) ∷ []

      go : (x : Option ℕ) → carrier features p ≡ x → (r : Resolution) → (r ≡ unknown → FirstFailing (cell_checks place features ps) 13 place)
          → followed_by (one_position x) r ≡ unknown → FirstFailing (here ++ cell_checks place features ps) 13 place
      go None a r b c = fail-left here (cell_checks place features ps) (fail-here 13 place (ap is_somewhere a))
      go (Some k) a unknown b c = fail-right here (cell_checks place features ps) (ap is_somewhere a, tt) (b refl)
      go (Some k) a (found js) b c = unknown≢found (sym c)
