-- A value of `ibm,pa-features` is accepted exactly when the edition is one of the two and the value is descriptors of which one has type 0, and one
-- of `ibm,pi-features` exactly when it is such; the answer is of the bytes of that one. Assumes nothing.
use mathlib.Core.Path.{◌≡◌, sym, ap, ◌∙◌}
use mathlib.Core.List.{List, [], ◌∷◌}
use mathlib.Core.Logic.{◌↔◌}
use Prim.Native.Nat.{ℕ, zero, suc, ◌≤◌}
use native.Mathlib.Omega.{arith}
use lib.Dec.{leb→le}
use lib.ListN.{length}
use Rattle.refusal.specs.Refusal.{Outcome, answer, refuse}
use Rattle.refusal.proofs.Checks.{passes, answered, tests}
use Rattle.cells.specs.Bytes.{Each}
use Rattle.attributes.specs.Attributes.{most_bytes, if_type_zero, attribute_checks, attribute_bytes, edition_later, known_bytes, pa_table, no_attributes, pa_checks, pa_features, pi_table, pi_features}
use Rattle.attributes.specs.Described.{Attribute, AttributeWithin, of_type_zero, Describes}
use Rattle.attributes.specs.Reserved.{Agree}
use Rattle.attributes.specs.declared.PaTable.{PaTable}
use Rattle.attributes.specs.declared.PiTable.{PiTable}
use Rattle.attributes.proofs.Scan.{numbered}
use Rattle.attributes.proofs.Described.{described-used, described-passes, passes-described}
use Rattle.attributes.proofs.Reserved.{reserved-ignored}

-- the one has at most 254 bytes
abbrev Few : List (List ℕ) → Type 0
Few = Each (λ bytes. length bytes ≤ most_bytes)

few-of : (ds : List Attribute) → Each AttributeWithin ds → Few (of_type_zero ds)
few-of [] w = tt
few-of (d ∷ ds) w = go d.type (few-of ds w.1)
  where
    go : (t : ℕ) → Few (of_type_zero ds) → Few (if_type_zero t d.bytes (of_type_zero ds))
    go zero rest = (w.0.few, rest)
    go (suc t) rest = rest

used-few : {ds : List Attribute} {used value : List ℕ} → Describes ds used value → length used ≤ most_bytes
used-few {ds} g = (rw g.one at (few-of ds g.within)).0

module _ (edition : ℕ) where
  pub pa-read : (value : List ℕ) → edition ≤ edition_later → (ds : List Attribute) (used : List ℕ) → Describes ds used value → pa_features edition value ≡ answer (pa_table (known_bytes edition used))
  unfolding pa_features pa_checks
  pa-read value h ds used g =
      passes (refuse no_attributes) (pa_checks edition value) (answer (pa_table (known_bytes edition (attribute_bytes value))))
      (omega (arith, tests), described-passes value ds used g)
      ∙ ap (λ (bytes : List ℕ). answer (pa_table (known_bytes edition bytes))) (described-used value ds used g)

  pub pa-accepts : (value : List ℕ) → (pa_features edition value).number ≡ 0 ↔ ((edition ≤ edition_later) × ((ds : List Attribute) × ((used : List ℕ) × Describes ds used value)))
  unfolding pa_features pa_checks
  pa-accepts value = (found, λ g. ap (λ (r : Outcome PaTable). r.number) (pa-read value g.0 g.1.0 g.1.1.0 g.1.1.1))
    where
      found : (pa_features edition value).number ≡ 0 → (edition ≤ edition_later) × ((ds : List Attribute) × ((used : List ℕ) × Describes ds used value))
      found e =
          let p = answered no_attributes (pa_table (known_bytes edition (attribute_bytes value))) (pa_checks edition value) (omega arith, numbered value) e in
          let g = passes-described value p.1 in
          (leb→le edition edition_later p.0, (g.0, (attribute_bytes value, g.1)))

  -- what an edition does not name is ignored
  pub pa-reserved : edition ≤ edition_later → (value other : List ℕ) (ds es : List Attribute) (used used' : List ℕ) → Describes ds used value → Describes es used' other
      → Agree edition used used' → pa_features edition value ≡ pa_features edition other
  pa-reserved h value other ds es used used' g k a =
      pa-read value h ds used g
      ∙ ap (λ (t : PaTable). answer t) (reserved-ignored edition h used used' (used-few g) (used-few k) a)
      ∙ sym (pa-read other h es used' k)

module _ (value : List ℕ) where
  pub pi-read : (ds : List Attribute) (used : List ℕ) → Describes ds used value → pi_features value ≡ answer (pi_table used)
  unfolding pi_features
  pi-read ds used g =
      passes (refuse (pi_table [])) (attribute_checks value) (answer (pi_table (attribute_bytes value))) (described-passes value ds used g)
      ∙ ap (λ (bytes : List ℕ). answer (pi_table bytes)) (described-used value ds used g)

  pub pi-accepts : (pi_features value).number ≡ 0 ↔ ((ds : List Attribute) × ((used : List ℕ) × Describes ds used value))
  unfolding pi_features
  pi-accepts = (found, λ g. ap (λ (r : Outcome PiTable). r.number) (pi-read g.0 g.1.0 g.1.1))
    where
      found : (pi_features value).number ≡ 0 → (ds : List Attribute) × ((used : List ℕ) × Describes ds used value)
      found e =
          let g = passes-described value (answered (pi_table []) (pi_table (attribute_bytes value)) (attribute_checks value) (numbered value) e) in
          (g.0, (attribute_bytes value, g.1))
