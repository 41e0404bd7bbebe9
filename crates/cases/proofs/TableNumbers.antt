-- The numbers of the checks of a CPU node's tables. Assumes nothing.
use Rattle.std.specs.Prelude.{Option, None, Some}
use Prim.Native.Nat.{ℕ, zero, suc}
use mathlib.Core.Path.{◌≡◌, refl}
use mathlib.Core.Bool.{true}
use mathlib.Core.List.{List, [], ◌∷◌, ◌++◌, map}
use lib.Dec.{ltb}
use lib.ListN.{length}
use Rattle.cells.specs.Cells.{cells_in}
use Rattle.sizes.specs.Sizes.{place_checks, plain_checks, size_checks}
use Rattle.segments.specs.Segments as segments
use Rattle.attributes.specs.Attributes as attributes
use Rattle.cases.proofs.EndLaws.{all_one_of, both-one-of, where-one-of}

-- page sizes and segment sizes
abbrev pub size_numbers : List ℕ
size_numbers = 8 ∷ 11 ∷ 12 ∷ 19 ∷ []

cells-numbered : (last : Option ℕ) (places : List (Option ℕ)) → all_one_of size_numbers (place_checks last places) ≡ true
unfolding place_checks
cells-numbered last [] = refl
cells-numbered last (None ∷ places) = cells-numbered last places
cells-numbered last (Some e ∷ places) = cells-numbered (Some e) places

pub sizes-numbered : (rule : ℕ → Option ℕ) (value : List ℕ) → all_one_of size_numbers (size_checks rule value) ≡ true
unfolding size_checks plain_checks
sizes-numbered rule value = both-one-of size_numbers (plain_checks rule value) _ (cells-numbered None (map rule (cells_in value))) refl

-- segment page sizes
abbrev pub segment_numbers : List ℕ
segment_numbers = 8 ∷ 11 ∷ 12 ∷ []

pages-numbered : (n : ℕ) (value : List ℕ) (at j : ℕ) → all_one_of segment_numbers (segments.page_checks n value at j) ≡ true
unfolding segments.page_checks
pages-numbered zero value at j = refl
pages-numbered (suc n) value at j = pages-numbered n value at (suc j)

descriptor-numbered : (value : List ℕ) (i at : ℕ) → all_one_of segment_numbers (segments.descriptor_checks value i at) ≡ true
unfolding segments.descriptor_checks segments.exponent_checks
descriptor-numbered value i at = pages-numbered (segments.count_at value at) value at 0

descriptors-numbered : (most : ℕ) (value : List ℕ) (i at : ℕ) → all_one_of segment_numbers (segments.checks_from most value i at) ≡ true
unfolding segments.checks_from
descriptors-numbered zero value i at = refl
descriptors-numbered (suc most) value i at =
    let here = segments.descriptor_checks value i at in
    let behind = segments.checks_from most value (suc i) (segments.next_at value at) in
    where-one-of segment_numbers (ltb at (length value)) (here ++ behind)
    (both-one-of segment_numbers here behind (descriptor-numbered value i at)
    (descriptors-numbered most value (suc i) (segments.next_at value at)))

pub segments-numbered : (value : List ℕ) → all_one_of segment_numbers (segments.segment_checks value) ≡ true
unfolding segments.segment_checks
segments-numbered value = descriptors-numbered (suc segments.most_descriptors) value 0 0

-- attribute bytes, beside other numbers
module _ (more : List ℕ) where
  abbrev pub attribute_numbers : List ℕ
  attribute_numbers = 9 ∷ 10 ∷ 11 ∷ 12 ∷ more

  bytes-numbered : (most : ℕ) (value : List ℕ) (at : ℕ) → all_one_of attribute_numbers (attributes.checks_from most value at) ≡ true
  unfolding attributes.checks_from attributes.descriptor_checks
  bytes-numbered zero value at = refl
  bytes-numbered (suc most) value at =
      where-one-of attribute_numbers (ltb at (length value))
      (attributes.descriptor_checks value at ++ attributes.checks_from most value (attributes.next_at value at))
      (bytes-numbered most value (attributes.next_at value at))

  pub attributes-numbered : (value : List ℕ) → all_one_of attribute_numbers (attributes.attribute_checks value) ≡ true
  unfolding attributes.attribute_checks attributes.type_checks
  attributes-numbered value =
      both-one-of attribute_numbers (attributes.checks_from (length value) value 0) (attributes.type_checks value)
      (bytes-numbered (length value) value 0)
      refl

-- with an edition
pub pa-numbered : (edition : ℕ) (value : List ℕ) → all_one_of (attribute_numbers (15 ∷ [])) (attributes.pa_checks edition value) ≡ true
unfolding attributes.pa_checks
pa-numbered edition value = attributes-numbered (15 ∷ []) value
