-- The number of a record's form. Assumes nothing.
use mathlib.Core.Path.{◌≡◌}
use mathlib.Core.Bool.{true, false}
use Rattle.refusal.specs.Checks.{fault_of, first_fault}
use Rattle.record.specs.declared.Record.{Record}
use Rattle.form.specs.WellFormed.{well_formed}
use Rattle.capi.specs.Answers.{form_number}

pub formed : (r : Record) → well_formed r ≡ true → 0 ≡ form_number r
unfolding form_number fault_of first_fault
formed r h = rw h

pub not-formed : (r : Record) → well_formed r ≡ false → 14 ≡ form_number r
unfolding form_number fault_of first_fault
not-formed r h = rw h
