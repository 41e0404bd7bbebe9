-- A value passes the checks of attributes exactly when it is descriptors of which one has type 0; there is one such list, and the bytes that are
-- used are those of that one. Assumes nothing.
use mathlib.Core.Path.{◌≡◌, refl, sym, ap, ap₂, ◌∙◌}
use mathlib.Core.Bool.{Bool, true, false}
use mathlib.Core.List.{List, [], ◌∷◌, ◌++◌, flat_map}
use Prim.Native.Nat.{ℕ, zero, suc, ◌+◌, ◌<◌, ◌≤◌}
use native.Mathlib.Omega.{arith}
use native.Mathlib.Decide.{dec_lt}
use borrow.Author.Tests.{lt-ltb, le-ltb}
use lib.Dec.{leb→le, ltb, ltb→lt}
use lib.ListN.{length, drop, length-append, length-take, length-drop, take-append-drop, drop_of_length-le}
use lib.Seq.{get_or-drop, take-append_seam, drop-append_seam, drop-drop, drop-cons}
use Rattle.refusal.proofs.Checks.{Passes, passes-join, passes-both, tests}
use Rattle.cells.specs.Cells.{byte_at}
use Rattle.cells.specs.Bytes.{Each}
use Rattle.attributes.specs.Attributes.{most_bytes, length_at, type_at, bytes_at, next_at, descriptor_checks, checks_from, if_type_zero, type_zero_from, type_zero, type_checks, attribute_checks, first_of, attribute_bytes}
use Rattle.attributes.specs.Described.{Attribute, encoded_attribute, AttributeWithin, of_type_zero, Describes}
use Rattle.attributes.proofs.Scan.{checks-step, checks-end}

-- the descriptor that is read at a place, and those from there on
abbrev attribute_at : List ℕ → ℕ → Attribute
attribute_at v at = record { type = type_at v at; bytes = bytes_at v at }

unfoldable attributes_from : ℕ → List ℕ → ℕ → List Attribute
attributes_from zero v at = []
attributes_from (suc most) v at = elim (ltb at (length v)) [ true ↦ attribute_at v at ∷ attributes_from most v (next_at v at) | false ↦ [] ]

-- a list of one, and the bytes of descriptors of which one has type 0
only_one : (l : List (List ℕ)) → length l ≡ 1 → l ≡ first_of l ∷ []
only_one [] e = absurd (omega arith)
only_one (x ∷ []) e = refl
only_one (x ∷ (y ∷ l)) e = absurd (omega arith)

some_bytes : (ds : List Attribute) (used : List ℕ) → of_type_zero ds ≡ used ∷ [] → 0 < length (flat_map encoded_attribute ds)
unfolding flat_map
some_bytes [] used e = absurd (omega (arith, ap length e))
some_bytes (d ∷ ds) used e = omega arith

module _ (v : List ℕ) where
  -- of these, the ones of type 0 are those that are found
  zeros_of : (most at : ℕ) → type_zero_from most v at ≡ of_type_zero (attributes_from most v at)
  unfolding type_zero_from attributes_from
  zeros_of zero at = refl
  zeros_of (suc most) at = go (ltb at (length v)) refl (zeros_of most (next_at v at))
    where
      go : (b : Bool) → ltb at (length v) ≡ b → type_zero_from most v (next_at v at) ≡ of_type_zero (attributes_from most v (next_at v at))
          → type_zero_from (suc most) v at ≡ of_type_zero (attributes_from (suc most) v at)
      go true e rest = rw (e, type_zero_from, attributes_from) (ap (if_type_zero (type_at v at) (bytes_at v at)) rest)
      go false e rest = rw (e, type_zero_from, attributes_from)

  module _ (most at : ℕ) where
    more : at < length v → attributes_from (suc most) v at ≡ attribute_at v at ∷ attributes_from most v (next_at v at)
    unfolding attributes_from
    more h = rw (lt-ltb at (length v) h, attributes_from)

  end : (most at : ℕ) → length v ≤ at → attributes_from most v at ≡ []
  unfolding attributes_from
  end zero at h = refl
  end (suc most) at h = rw (le-ltb at (length v) h, attributes_from)

  -- a descriptor that stands at a place is read there, and what is behind it is the rest
  module _ (at : ℕ) (d : Attribute) (rest : List ℕ) (e : drop at v ≡ encoded_attribute d ++ rest) where
    long : length v ≡ at + 2 + length d.bytes + length rest
    long = omega (arith, ap length e, length-drop at v, length-append d.bytes rest)

    at_place : (i : ℕ) → byte_at v (at + i) ≡ byte_at (encoded_attribute d ++ rest) i
    at_place i = sym (get_or-drop at v i 0) ∙ ap (λ (l : List ℕ). byte_at l i) e

    length-read : length_at v at ≡ length d.bytes
    length-read = let n : at ≡ at + 0 = omega arith in ap (byte_at v) n ∙ at_place 0

    type-read : type_at v at ≡ d.type
    type-read = at_place 1

    behind : drop (at + 2) v ≡ d.bytes ++ rest
    behind = sym (drop-drop 2 at v) ∙ ap (drop 2) e

    bytes_read : bytes_at v at ≡ d.bytes
    bytes_read = rw (length-read, behind) (take-append_seam d.bytes rest)

    attribute-read : attribute_at v at ≡ d
    attribute-read = ap₂ (λ (t : ℕ) (bs : List ℕ). record { type = t; bytes = bs }) type-read bytes_read

    rest_read : drop (next_at v at) v ≡ rest
    rest_read = rw length-read (sym (drop-drop (length d.bytes) (at + 2) v) ∙ ap (drop (length d.bytes)) behind ∙ drop-append_seam d.bytes rest)

    within-passes : AttributeWithin d → Passes (descriptor_checks v at)
    unfolding descriptor_checks
    within-passes w =
        let n = length-read in
        let l = long in
        (omega (arith, tests), (omega (arith, tests, w.some), (omega (arith, tests, w.few), (omega (arith, tests), tt))))

  -- descriptors up to the value's end are read, and no check of them fails
  read-from : (most at : ℕ) (ds : List Attribute) → length v ≤ most + at → Each AttributeWithin ds → drop at v ≡ flat_map encoded_attribute ds
      → Passes (checks_from most v at) × (attributes_from most v at ≡ ds)
  unfolding flat_map
  read-from most at [] f w e =
      let h : length v ≤ at = omega (arith, ap length e, length-drop at v) in
      (rw (checks-end v at h most) tt, end most at h)
  read-from zero at (d ∷ ds) f w e = absurd (omega (arith, long at d (flat_map encoded_attribute ds) e))
  read-from (suc most) at (d ∷ ds) f w e =
      let rest : List ℕ = flat_map encoded_attribute ds in
      let l = long at d rest e in
      let n = length-read at d rest e in
      let h : at < length v = omega arith in
      let g = read-from most (next_at v at) ds (omega (arith, w.0.some)) w.1 (rest_read at d rest e) in (
        rw (checks-step v at most h) (passes-join (descriptor_checks v at) (checks_from most v (next_at v at)) (within-passes at d rest e w.0) g.0),
        more most at h ∙ ap₂ (λ (x : Attribute) (xs : List Attribute). x ∷ xs) (attribute-read at d rest e) g.1,
      )

  -- where no check fails, those that are read stand there
  module _ (at : ℕ) (h : at < length v) (p : Passes (descriptor_checks v at)) where
    inside : next_at v at ≤ length v
    unfolding descriptor_checks
    inside = leb→le (next_at v at) (length v) p.1.1.1.0

    size : length (bytes_at v at) ≡ length_at v at
    size = omega (arith, inside, length-take (length_at v at) (drop (at + 2) v), length-drop (at + 2) v)

    passes-within : AttributeWithin (attribute_at v at)
    unfolding descriptor_checks
    passes-within = record {
      some = omega (arith, size, ltb→lt 0 (length_at v at) p.1.0);
      few = omega (arith, size, leb→le (length_at v at) most_bytes p.1.1.0);
    }

    stands : drop at v ≡ encoded_attribute (attribute_at v at) ++ drop (next_at v at) v
    stands =
        let i = inside in
        let k : suc at ≡ at + 1 = omega arith in
        let m : suc (at + 1) ≡ at + 2 = omega arith in
        drop-cons v at 0 h
        ∙ ap₂ (λ (x : ℕ) (l : List ℕ). x ∷ l) (sym size)
        (ap (λ (j : ℕ). drop j v) k ∙ drop-cons v (at + 1) 0 (omega arith)
        ∙ ap (λ (l : List ℕ). type_at v at ∷ l)
        (ap (λ (j : ℕ). drop j v) m ∙ sym (take-append-drop (length_at v at) (drop (at + 2) v))
        ∙ ap (λ (l : List ℕ). bytes_at v at ++ l) (drop-drop (length_at v at) (at + 2) v)))

  found_from : (most at : ℕ) → length v ≤ most + at → Passes (checks_from most v at)
      → Each AttributeWithin (attributes_from most v at) × (drop at v ≡ flat_map encoded_attribute (attributes_from most v at))
  unfolding flat_map
  found_from zero at f p =
      let n : length v ≤ at = omega arith in
      rw (end zero at n) (tt, drop_of_length-le v n)
  found_from (suc most) at f p = go (dec_lt at (length v)) (found_from most (next_at v at))
    where
      go : Dec (at < length v)
          → (length v ≤ most + next_at v at → Passes (checks_from most v (next_at v at)) → Each AttributeWithin (attributes_from most v (next_at v at)) × (drop (next_at v at) v ≡ flat_map encoded_attribute (attributes_from most v (next_at v at))))
          → Each AttributeWithin (attributes_from (suc most) v at) × (drop at v ≡ flat_map encoded_attribute (attributes_from (suc most) v at))
      go (yes h) rest =
          let c = passes-both (descriptor_checks v at) (checks_from most v (next_at v at)) (rw (checks-step v at most h) at p) in
          let g = rest (omega arith) c.1 in
          rw (more most at h) ((passes-within at h c.0, g.0), stands at h c.0 ∙ ap (λ (l : List ℕ). encoded_attribute (attribute_at v at) ++ l) g.1)
      go (no h) rest =
          let n : length v ≤ at = omega arith in
          rw (end (suc most) at n) (tt, drop_of_length-le v n)

  -- the descriptors of the whole value
  abbrev attributes_in : List Attribute
  attributes_in = attributes_from (length v) v 0

  zeros-in : type_zero v ≡ of_type_zero attributes_in
  zeros-in = zeros_of (length v) 0

  module _ (ds : List Attribute) (used : List ℕ) (g : Describes ds used v) where
    whole-read : Passes (checks_from (length v) v 0) × (attributes_in ≡ ds)
    whole-read = read-from (length v) 0 ds (omega arith) g.within g.bytes

    one_found : type_zero v ≡ used ∷ []
    one_found = zeros-in ∙ ap of_type_zero whole-read.1 ∙ g.one

    -- its bytes are used
    pub described-used : attribute_bytes v ≡ used
    unfolding attribute_bytes
    described-used = ap first_of one_found

    -- and no check fails
    pub described-passes : Passes (attribute_checks v)
    unfolding attribute_checks type_checks
    described-passes =
        let z : length (type_zero v) ≡ 1 = ap length one_found in
        let n : 0 < length v = omega (arith, ap length g.bytes, some_bytes ds used g.one) in
        (omega (arith, tests), passes-join (checks_from (length v) v 0) (type_checks v) whole-read.0 (omega (arith, tests), (omega (arith, tests), tt)))

  -- where no check fails, there are such descriptors
  pub passes-described : Passes (attribute_checks v) → (ds : List Attribute) × Describes ds (attribute_bytes v) v
  unfolding attribute_checks type_checks attribute_bytes
  passes-described p =
      let c = passes-both (checks_from (length v) v 0) (type_checks v) p.1 in
      let g = found_from (length v) 0 (omega arith) c.0 in
      let low = ltb→lt 0 (length (type_zero v)) c.1.0 in
      let high = leb→le (length (type_zero v)) 1 c.1.1.0 in
      (attributes_in, record { within = g.0; one = sym zeros-in ∙ only_one (type_zero v) (omega arith); bytes = g.1 })

-- there is one such list
pub described-once : (v : List ℕ) (a b : List Attribute) (used other : List ℕ) → Describes a used v → Describes b other v → a ≡ b
described-once v a b used other g h = sym (whole-read v a used g).1 ∙ (whole-read v b other h).1
