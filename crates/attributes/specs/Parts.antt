-- What the parts of the code answer. No public promise rests on this file.
use Rattle.std.specs.Prelude.{ℕ, min, cond, eqb}
use Rattle.attributes.specs.Attributes.{first_later, edition_first}

-- how many bytes of a descriptor an edition knows
unfoldable pub known_count : ℕ → ℕ → ℕ
known_count edition count = cond (eqb edition edition_first) (min count first_later) count
