-- The features' phandles, by position: nothing where a feature carries none.
use Rattle.std.specs.Prelude.{ℕ, Bool, List, Option, None, Some, nat_eq, get_or}
use Rattle.std.specs.Option.{option_eq}

-- what a feature carries is a phandle
abbrev pub is_phandle : ℕ → Option ℕ → Bool
is_phandle phandle carried = option_eq nat_eq carried (Some phandle)

-- the feature at a position carries a phandle
unfoldable pub is_at : List (Option ℕ) → ℕ → ℕ → Bool
is_at phandles phandle i = is_phandle phandle (get_or phandles i None)
