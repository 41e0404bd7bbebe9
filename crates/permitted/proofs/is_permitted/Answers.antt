-- `permitted::is_permitted` meets its contract: privilege, the hypervisor's support, the system's. Assumes nothing.
use mathlib.Core.Path.{◌∙◌}
use Rattle.permitted.proofs.PermittedLaws.{usable-by, hv-number, hv-supported, os-number, os-supported, both-tests, first-fails, system-decides, tests-fail}
use Rattle.permitted.proofs.is_permitted.Goals as goal
use Rattle.permitted.proofs.is_permitted.Goals.{then-is_usable, else-is_usable}

pub is_supported_below-requires : goal.is_supported_below-requires
is_supported_below-requires c = hv-number _ c.requires c.cell_of-then-is_usable.ensures

pub is_supported_below-requires-then-is_supported_below : goal.is_supported_below-requires-then-is_supported_below
is_supported_below-requires-then-is_supported_below c = os-number _ c.requires c.cell_of-then-is_supported_below.ensures

pub returns-then-is_supported_below : goal.returns-then-is_supported_below
returns-then-is_supported_below c =
    let usable = usable-by _ c.is_usable.ensures c.cell_of.ensures in
    let os = os-supported _ c.requires _ _ _ _ c.is_supported_below-then-is_supported_below.ensures c.cell_of-then-is_supported_below.ensures in
    system-decides _ _ _ _ (elim c.if-is_usable.branch [
      | then-is_usable w ↦ both-tests _ _ c.args.g _ usable w.if-is_usable.true
          (w.value-is ∙ hv-supported _ c.requires _ _ _ _ w.is_supported_below.ensures w.cell_of-then-is_usable.ensures)
      | else-is_usable w ↦ first-fails _ _ c.args.g _ usable w.if-is_usable.false w.value-is
    ]) c.if-is_supported_below.true os

pub returns-else-is_supported_below : goal.returns-else-is_supported_below
returns-else-is_supported_below c =
    let usable = usable-by _ c.is_usable.ensures c.cell_of.ensures in
    tests-fail _ _ _ _ (elim c.if-is_usable.branch [
      | then-is_usable w ↦ both-tests _ _ c.args.g _ usable w.if-is_usable.true
          (w.value-is ∙ hv-supported _ c.requires _ _ _ _ w.is_supported_below.ensures w.cell_of-then-is_usable.ensures)
      | else-is_usable w ↦ first-fails _ _ c.args.g _ usable w.if-is_usable.false w.value-is
    ]) c.if-is_supported_below.false
