-- Demand 1 of looking a property up, for all blocks and names. Assumes nothing.
use Rattle.std.specs.Prelude.{Option, None}
use Prim.Native.Nat.{ℕ}
use mathlib.Core.Path.{◌≡◌, refl, ap}
use mathlib.Core.List.{List, [], ◌∷◌}
use mathlib.Core.Logic.{◌↔◌}
use native.Mathlib.Omega.{arith}
use lib.ListN.{length}
use Rattle.lookup.specs.declared.Found.{Found}
use Rattle.lookup.specs.Lookup.{lookup, part_of}
use Rattle.lookup.specs.Reasons.{BlockFault, token, name, repeated, LookupEnds, in_cpu, in_parent, not_there, faulty}
use Rattle.lookup.proofs.Reasons.{lookup-ends}
use Rattle.lookup.proofs.ReturnedPart.{in-cpu, in-parent}
use Rattle.capi.specs.Properties.{part_in, find_property}
use Rattle.cases.specs.Ends.{Ends, answered, refused}
use Rattle.cases.specs.Demand1.{no_part, Demand1Lookup}

-- the walk's 6, 7 or 9
faulty-ends : {A : Type 0} {n : ℕ} (zeros : A) → BlockFault n → Ends (6 ∷ 7 ∷ 9 ∷ 10 ∷ []) zeros (record { number = n; value = zeros })
faulty-ends zeros token = refused 6 refl
faulty-ends zeros name = refused 7 refl
faulty-ends zeros repeated = refused 9 refl

not-zero : {n : ℕ} → BlockFault n → n ≡ 0 → ⊥
not-zero token z = omega arith
not-zero name z = omega arith
not-zero repeated z = omega arith

module _ (cpu parent strings sought : List ℕ) where
  where-ends : {f : Option Found} {n : ℕ} → LookupEnds f n → Ends (6 ∷ 7 ∷ 9 ∷ 10 ∷ []) None (record { number = n; value = f })
  where-ends in_cpu = answered _
  where-ends in_parent = answered _
  where-ends not_there = refused 10 refl
  where-ends (faulty b) = faulty-ends None b

  part-ends : {f : Option Found} {n : ℕ} → LookupEnds f n → Ends (6 ∷ 7 ∷ 9 ∷ 10 ∷ []) [] (record { number = n; value = part_of cpu parent f })
  unfolding part_of
  part-ends in_cpu = answered _
  part-ends in_parent = answered _
  part-ends not_there = refused 10 refl
  part-ends (faulty b) = faulty-ends [] b

  find-ends : {f : Option Found} {n : ℕ} → LookupEnds f n → Ends (6 ∷ 7 ∷ 9 ∷ 10 ∷ []) no_part (record { number = n; value = part_in f })
  find-ends in_cpu = answered _
  find-ends in_parent = answered _
  find-ends not_there = refused 10 refl
  find-ends (faulty b) = faulty-ends no_part b

  -- the part of a property that is found has bytes
  found_part : {f : Option Found} {n : ℕ} → LookupEnds f n → lookup cpu parent strings sought ≡ f → (n ≡ 0) ↔ (part_of cpu parent f ≡ [] → ⊥)
  unfolding part_of
  found_part in_cpu e = let p = in-cpu cpu parent strings sought e in (λ z q. omega (arith, p.head, p.long, ap length q), λ q. refl)
  found_part in_parent e = let p = in-parent cpu parent strings sought e in (λ z q. omega (arith, p.head, p.long, ap length q), λ q. refl)
  found_part not_there e = (λ z q. omega arith, λ q. absurd (q refl))
  found_part (faulty b) e = (λ z q. not-zero b z, λ q. absurd (q refl))

  pub of-lookup : Demand1Lookup cpu parent strings sought
  unfolding find_property
  of-lookup =
      let l = lookup-ends cpu parent strings sought in
      record { where_ends = where-ends l; part_ends = part-ends l; find_ends = find-ends l; found = found_part l refl }
