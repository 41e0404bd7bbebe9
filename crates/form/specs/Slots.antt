-- One feature and its dependencies at a position that may be none of the 64, for `slots_fit` and `feature_fits`; and what the private
-- functions say of slots.
use Rattle.std.specs.Prelude.{ℕ, ◌+◌, ◌*◌, ◌≤◌, ◌<◌, Bool, ◌&&◌, List, ltb, get_or}
use Rattle.record.specs.declared.Feature.{Feature}
use Rattle.record.specs.Record.{most_features, most_dependencies}
use Rattle.form.specs.WellFormed.{slots_fit, fits_in}

-- the dependencies of one of 64 positions fit
unfoldable pub slots_fit_at : List ℕ → ℕ → ℕ → ℕ → Bool
slots_fit_at slots count i n = ltb i most_features && slots_fit slots count i n

-- a feature fits at one of 64 positions
unfoldable pub fits_at : Feature → List ℕ → ℕ → ℕ → Bool
fits_at f slots count i = ltb i most_features && fits_in f slots count i

-- none of the slots of position i is above a number
abbrev pub SlotsUpTo : List ℕ → ℕ → ℕ → Type 0
SlotsUpTo slots i most = (j : ℕ) → j < most_dependencies → get_or slots (most_dependencies * i + j) 0 ≤ most
