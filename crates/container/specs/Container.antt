-- The strings of a container (document 02, A3): "The container check takes `compatible` at any place and either `device_type` as its only
-- string". A value is given by its bytes; one that is missing has none.
use Rattle.std.specs.Prelude.{ℕ, Bool, ◌||◌, List, [], ◌∷◌, ◌++◌}
use Rattle.characters.specs.Characters.{bytes}
use Rattle.positions.specs.Below.{is_somewhere}
use Rattle.stringlist.specs.StringList.{AreStrings, string_place, is_only_string}

-- "either `device_type` as its only string": its characters, "with its zero byte", and nothing more
pub data ContainerType : List ℕ → Type 0 where
  short_type : ContainerType (bytes "cpu-features" ++ 0 ∷ [])
  long_type : ContainerType (bytes "ibm,powerpc-cpu-features" ++ 0 ∷ [])

-- "`compatible` at any place": one of a list of strings
pub record ContainerCompatible (value : List ℕ) : Type 0 where
  pub before : List (List ℕ)
  pub after : List (List ℕ)
  pub strings : AreStrings value (before ++ bytes "ibm,powerpc-cpu-features" ∷ after)

-- the same as tests
unfoldable pub is_container_type : List ℕ → Bool
is_container_type value = is_only_string value (bytes "cpu-features") || is_only_string value (bytes "ibm,powerpc-cpu-features")

unfoldable pub is_container_compatible : List ℕ → Bool
is_container_compatible value = is_somewhere (string_place value (bytes "ibm,powerpc-cpu-features"))
