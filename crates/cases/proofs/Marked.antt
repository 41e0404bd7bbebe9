-- Every case of the list holds: antt computes each, those of features in Cycles.antt. Assumes nothing.
use mathlib.Core.Path.{refl}
use mathlib.Core.List.{flat_map}
use Rattle.refusal.specs.Checks.{first_fault}
use Rattle.characters.specs.Characters.{hex_value, hex_digit}
use Rattle.cells.specs.Bytes.{cell_bytes}
use Rattle.cells.specs.Cells.{cell_at}
use Rattle.cells.specs.Buffer.{written, after_writing}
use Rattle.unit.specs.Hex.{hex_after, hex_checks, read_hex, digits_of, hex_text, digit_count, write_checks, write_hex, after_hex}
use Rattle.unit.specs.Unit.{read_unit, write_unit, after_unit}
use Rattle.sizes.specs.Sizes.{ascends, place_checks, plain_checks, size_checks, no_sizes, size_table, sizes}
use Rattle.cases.specs.Cases.{CasesHold, cases}
use Rattle.cases.proofs.Cycles.{cycle-holds, blocked-holds, blocked-reported, self-holds}

pub all_hold : CasesHold cases
unfolding first_fault flat_map cell_bytes hex_value hex_digit cell_at written hex_after hex_checks read_hex digits_of hex_text digit_count write_checks write_hex after_writing after_hex read_unit write_unit after_unit ascends place_checks plain_checks size_checks no_sizes size_table sizes
all_hold = (
  (refl, refl),
  (
    (refl, refl),
    (refl, (refl, (refl, (refl, (refl, (refl, (refl, (refl, (refl, (refl, (refl, (refl, (cycle-holds, (blocked-holds, (blocked-reported, (self-holds, tt)))))))))))))))),
  ),
)
