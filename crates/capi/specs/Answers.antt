-- What the answers of the functions for C say that are no crate's answer with a number: the number of document 01, and a value.
use Rattle.std.specs.Prelude.{ℕ, [], ◌∷◌}
use Rattle.refusal.specs.Refusal.{Placed}
use Rattle.refusal.specs.Checks.{check, fault_of}
use Rattle.record.specs.declared.Record.{Record}
use Rattle.form.specs.WellFormed.{well_formed}
use Rattle.capi.specs.declared.tree.YebkuzanRead.{YebkuzanRead}

-- 14 where a record is not well formed
unfoldable pub form_number : Record → ℕ
form_number r = fault_of (check (well_formed r) 14 ∷ [])

-- with a place
abbrev pub read_outcome_c : YebkuzanRead → Placed Record
read_outcome_c r = record { number = r.number; place = r.place; value = r.«record» }
