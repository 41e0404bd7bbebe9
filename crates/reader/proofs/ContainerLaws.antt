-- A refused reading, the bytes of a property's value, and a container's own properties. Assumes nothing.
use mathlib.Core.Path.{◌≡◌, refl, sym, subst, ◌∙◌}
use mathlib.Core.Bool.{Bool, true, false, ◌&&◌, false≢true}
use mathlib.Core.List.{List, [], ◌∷◌, ◌++◌}
use Prim.Native.Nat.{ℕ, ◌+◌, ◌-◌}
use native.Mathlib.Omega.{arith}
use lib.ListN.{take, drop, replicate}
use Rattle.std.specs.Prelude.{Ok, Err}
use Rattle.container.specs.Container.{is_container_type, is_container_compatible}
use Rattle.characters.specs.Characters.{bytes}
use Rattle.record.specs.declared.Feature.{Feature}
use Rattle.record.specs.declared.Record.{Record}
use Rattle.record.specs.Record.{most_features, slot_count, no_feature, no_features}
use Rattle.refusal.specs.declared.Refusal.TheVariants.{PropertyForm}
use Rattle.refusal.specs.Refusal.{Fault, fault, number_in}
use Rattle.refusal.proofs.Numbers.{numbered}
use Rattle.refusal.specs.Checks.{Check, check}
use Rattle.tokens.specs.Steps.{pick}
use Rattle.tokens.specs.Tokens.{Token}
use Rattle.nodes.specs.Nodes.{Node}
use Rattle.nodes.specs.Values.{Value, missing, value, value_in, value_of, bytes_of, is_cell}
use Rattle.reading.specs.Features.{required_checks}
use Rattle.reading.specs.Reading.{container_properties}
use Rattle.reading.specs.Ends.{FirstFailing}
use Rattle.nodes.specs.Parts.{Lies}
use Rattle.reader.specs.Parts.{CellResult, cell_fault, CellIs, Judged, is_container, ContainerIs}
use Rattle.reading.proofs.CheckLaws.{fail-left, fail-right, fail-here}
use Rattle.reader.proofs.JudgedLaws.{judged-check}
use Rattle.reader.proofs.RangeLaws.{number-cell}

-- a record of no features, as the code makes it
abbrev none : Feature → Record
none f = record { isa = 0; count = 0; features = replicate most_features f; slots = replicate slot_count 0 }

pub none_is : {f : Feature} → f ≡ no_feature → none f ≡ no_features
unfolding no_features
none_is e = rw e

-- the bytes of a value
module _ {v : Value} where
  pub part-missing : v ≡ missing → [] ≡ bytes_of v
  part-missing e = rw e

  pub part-given : {tree : List ℕ} {from size : ℕ} → Lies tree v from size → take (from + size - from) (drop from tree) ≡ bytes_of v
  part-given {from = from} {size = size} g =
      let n : from + size - from ≡ size = omega arith in
      rw (g.bytes, n)

-- a property that is needed, of one cell
fault-needed : (v : Value) → cell_fault true v ≡ pick (is_cell v) 0 11
fault-needed missing = refl
fault-needed (value bs) = refl

needed-judged : (at : ℕ) (v : Value) {n : ℕ} → n ≡ cell_fault true v → Judged (required_checks at v) n at
needed-judged at v e = let k = e ∙ fault-needed v in judged-check (is_cell v) 11 at (omega arith) (λ h. rw h at k) (λ h. rw h at k)

-- the container's properties, in order
abbrev typed : Node → Bool
typed c = is_container_type (bytes_of (value_of c "device_type"))

abbrev compatible : Node → Bool
compatible c = is_container_compatible (bytes_of (value_of c "compatible"))

abbrev check_of : Node → Bool → List (Check Fault)
check_of c holds = check holds (fault 11 c.at) ∷ []

module _ (ts : List Token) where
  -- a container's values are those of some tokens
  abbrev Same : Node → Type 0
  Same c = (name : List ℕ) → value_in name c.behind ≡ value_in name ts

  abbrev Reads : CellResult → Type 0
  Reads r = (c : Node) → Same c → ContainerIs c r

  both : (c : Node) → Same c → is_container ts ≡ (typed c && compatible c)
  unfolding is_container
  both c same = rw (← same (bytes "device_type"), ← same (bytes "compatible"))

  pub not-container : is_container ts ≡ false → Reads (Err PropertyForm)
  not-container z c same = go (typed c) refl (compatible c) refl (sym (both c same) ∙ z)
    where
      go : (d : Bool) → typed c ≡ d → (g : Bool) → compatible c ≡ g → (d && g) ≡ false → FirstFailing (container_properties c) 11 c.at
      go false e g k z = fail-left (check_of c (typed c)) _ (fail-here 11 c.at e)
      go true e g k z =
          fail-right (check_of c (typed c)) _ (e, tt) (fail-left (check_of c (compatible c)) _ (fail-here 11 c.at (k ∙ z)))

  pub container-read : is_container ts ≡ true → {r : CellResult} → CellIs true (value_in (bytes "isa") ts) r → Reads r
  container-read y {r} h c same =
      let m = subst (λ (v : Value). CellIs true v r) (sym (same (bytes "isa"))) h in
      let t = go (typed c) (compatible c) (sym (both c same) ∙ y) in
      is r m t.0 t.1 (needed-judged c.at (value_of c "isa") m.fault)
    where
      go : (d g : Bool) → (d && g) ≡ true → (d ≡ true) × (g ≡ true)
      go true g e = (refl, e)
      go false g e = absurd (false≢true e)

      is : (r : CellResult) → CellIs true (value_of c "isa") r → typed c ≡ true → compatible c ≡ true
          → Judged (required_checks c.at (value_of c "isa")) (number_in r) c.at → ContainerIs c r
      is (Ok isa) m d g j = record { hold = (d, (g, j.hold refl)); is = sym (number-cell (value_of c "isa") (m.cell refl)) }
      is (Err e) m d g j = fail-right (check_of c (typed c) ++ check_of c (compatible c)) _ (d, (g, tt)) (j.fail (numbered e))
