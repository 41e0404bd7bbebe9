-- What the private functions answer. The promises of the public ones rest on `StringList`, not on this file.
use Rattle.std.specs.Prelude.{ℕ, ◌+◌, ◌||◌, cond, Result, Ok, Err, List, [], ◌∷◌, eqb, length}
use Rattle.strings.specs.Strings.{same_bytes}
use Rattle.stringlist.specs.declared.StringAt.{StringAt}

-- a scan stops at a string
abbrev pub at_string : ℕ → ℕ → ℕ → Result StringAt ℕ
at_string place from to = Ok (record { place = place; from = from; to = to })

-- where a scan of some strings stops: at the first that is the text or stands at the place sought, else behind the last, with how many there
-- are; the first of them stands at `place` and begins at `from`
unfoldable pub stop_in : List ℕ → ℕ → ℕ → ℕ → List (List ℕ) → Result StringAt ℕ
stop_in text sought place from [] = Err place
stop_in text sought place from (t ∷ ts) =
    cond (same_bytes t text || eqb place sought) (at_string place from (from + length t)) (stop_in text sought (place + 1) (from + length t + 1) ts)
