-- Where a property is, in numbers, by what the look-up answers. Assumes nothing.
use mathlib.Core.Path.{◌≡◌, sym, ap, ◌∙◌}
use mathlib.Core.List.{List}
use Prim.Native.Nat.{ℕ, ◌≤◌}
use native.Mathlib.Omega.{arith}
use Rattle.refusal.specs.Refusal.{Outcome}
use Rattle.std.specs.Prelude.{Option, Some}
use Rattle.lookup.specs.Lookup.{lookup, looked_up}
use Rattle.lookup.specs.declared.Found.{Found}
use Rattle.lookup.specs.declared.Found.TheVariants.{InCpu, InParent}
use Rattle.lookup.proofs.ReturnedPart.{in-cpu, in-parent}
use Rattle.capi.specs.Properties.{part_in, find_property}

module _ (cpu parent strings name : List ℕ) {n : ℕ} {f : Option Found}
    (e : ◌≡◌ {A = Outcome (Option Found)} (record { number = n; value = f }) (looked_up cpu parent strings name)) where
  place : f ≡ lookup cpu parent strings name
  place = ap (λ (o : Outcome (Option Found)). o.value) e

  pub cpu-ordered : {from to : ℕ} → f ≡ Some (InCpu from to) → from ≤ to
  cpu-ordered q = let h = in-cpu cpu parent strings name (sym place ∙ q) in omega (arith, h.head)

  pub parent-ordered : {from to : ℕ} → f ≡ Some (InParent from to) → from ≤ to
  parent-ordered q = let h = in-parent cpu parent strings name (sym place ∙ q) in omega (arith, h.head)

  pub found_at : {g : Option Found} → f ≡ g → record { number = n; value = part_in g } ≡ find_property cpu parent strings name
  unfolding find_property
  found_at q =
      let why = ap (λ (o : Outcome (Option Found)). o.number) e in
      let where-it-is = sym q ∙ place in
      λ i. record { number = why i; value = part_in (where-it-is i) }
