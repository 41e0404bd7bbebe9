-- The values of `ibm,pa-features` and `ibm,pi-features` as a relation in document 01's words: "descriptors of length byte (1 to 254), type byte,
-- then that many bytes. One of type 0 is used .. others skipped". `attribute_checks` and `attribute_bytes` read them.
use Rattle.std.specs.Prelude.{ℕ, ◌≤◌, ◌≡◌, length}
use mathlib.Core.List.{List, [], ◌∷◌, flat_map}
use Rattle.cells.specs.Bytes.{Each}
use Rattle.attributes.specs.Attributes.{most_bytes, if_type_zero}

-- a descriptor
pub record Attribute : Type 0 where
  pub type : ℕ
  pub bytes : List ℕ

-- "length byte .., type byte, then that many bytes"
abbrev pub encoded_attribute : Attribute → List ℕ
encoded_attribute d = length d.bytes ∷ d.type ∷ d.bytes

-- "(1 to 254)"
pub record AttributeWithin (d : Attribute) : Type 0 where
  pub some : 1 ≤ length d.bytes
  pub few : length d.bytes ≤ most_bytes

-- the bytes of those "of type 0"; "others skipped"
abbrev pub of_type_zero : List Attribute → List (List ℕ)
of_type_zero [] = []
of_type_zero (d ∷ ds) = if_type_zero d.type d.bytes (of_type_zero ds)

-- a value is descriptors, one behind the other; one of them has type 0, and `used` are its bytes
pub record Describes (descriptors : List Attribute) (used value : List ℕ) : Type 0 where
  pub within : Each AttributeWithin descriptors
  pub one : of_type_zero descriptors ≡ used ∷ []
  pub bytes : value ≡ flat_map encoded_attribute descriptors
