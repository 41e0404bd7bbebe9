-- What the private functions that keep marks answer. A mark is a small number of a name's characters. Equal names have equal marks, so
-- that a name whose mark is new in its node has not been given there. The promises of the public functions rest on `Properties`, not on
-- this file.
use Rattle.std.specs.Prelude.{ℕ, ◌+◌, ◌-◌, ◌*◌, ◌/◌, ◌%◌, Bool, true, List, length, get_or, set}
use Rattle.strings.specs.Strings.{Text, ended, unended}
use Rattle.names.specs.Names.{is_property_name}
use Rattle.tokens.specs.Steps.{pick}

-- how many marks there are
abbrev pub mark_count : ℕ
mark_count = 256

-- the mark of a name's characters: of how many there are, and of the first, the last and two between them
unfoldable pub mark_from : List ℕ → ℕ
mark_from cs =
    let n = length cs in
    (n % mark_count * 37 + get_or cs 0 0 * 59 + get_or cs (n / 3) 0 * 5 + get_or cs (n - 1 - n / 3) 0 * 13 + get_or cs (n - 1) 0 * 17) % mark_count

unfoldable pub mark_of : Text → ℕ
mark_of (ended cs) = mark_from cs
mark_of unended = 0

-- a mark is set among marks; one past their end counts as set
unfoldable pub is_set : List Bool → ℕ → Bool
is_set marks mark = get_or marks mark true

-- the marks once a property of a name has come: that of a name as it should be is set
unfoldable pub with_mark : Text → List Bool → List Bool
with_mark n marks = pick (is_property_name n) (set marks (mark_of n) true) marks
