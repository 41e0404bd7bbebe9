-- Where a property of a CPU node is, in numbers (document 01, "CPU properties and unit text").
use Rattle.std.specs.Prelude.{ℕ, ◌-◌, List, Option, Some, None}
use Rattle.refusal.specs.Refusal.{Outcome}
use Rattle.lookup.specs.Lookup.{lookup, reason}
use Rattle.lookup.specs.declared.Found.{Found}
use Rattle.lookup.specs.declared.Found.TheVariants.{InCpu, InParent}
use Rattle.capi.specs.declared.cpu.YebkuzanProperty.{YebkuzanProperty}

-- "as a part of the one block or of the other": 1 for the CPU node's, 2 for that of `/cpus`, 0 for neither; and the part's offset and
-- length there
pub record Part : Type 0 where
  pub block : ℕ
  pub offset : ℕ
  pub length : ℕ

abbrev pub part_in : Option Found → Part
part_in (Some (InCpu from to)) = record { block = 1; offset = from; length = to - from }
part_in (Some (InParent from to)) = record { block = 2; offset = from; length = to - from }
part_in None = record { block = 0; offset = 0; length = 0 }

-- the reason, "0 when it is found", and the part
unfoldable pub find_property : List ℕ → List ℕ → List ℕ → List ℕ → Outcome Part
find_property cpu parent strings name = record { number = reason cpu parent strings name; value = part_in (lookup cpu parent strings name) }

abbrev pub property_outcome_c : YebkuzanProperty → Outcome Part
property_outcome_c r = record { number = r.number; value = record { block = r.block; offset = r.offset; length = r.length } }
