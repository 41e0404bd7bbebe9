-- `capi::cpu::yebkuzan_find_property` meets its contract. Assumes nothing.
use mathlib.Core.Path.{refl, ap}
use Rattle.std.specs.Prelude.{Some}
use Rattle.capi.proofs.PropertyLaws.{cpu-ordered, parent-ordered, found_at}
use Rattle.capi.proofs.cpu.yebkuzan_find_property.Goals as goal

pub overflow_sub-result : goal.overflow_sub-result
overflow_sub-result c = cpu-ordered _ _ _ _ c.in-Ok-InCpu.ensures (ap Some c.in-Ok-InCpu.field-0-is)

pub overflow_sub-result-in-Ok-InParent : goal.overflow_sub-result-in-Ok-InParent
overflow_sub-result-in-Ok-InParent c = parent-ordered _ _ _ _ c.in-Ok-InParent.ensures (ap Some c.in-Ok-InParent.field-0-is)

pub returns-in-Ok-InCpu : goal.returns-in-Ok-InCpu
returns-in-Ok-InCpu c = found_at _ _ _ _ c.in-Ok-InCpu.ensures (ap Some c.in-Ok-InCpu.field-0-is)

pub returns-in-Ok-InParent : goal.returns-in-Ok-InParent
returns-in-Ok-InParent c = found_at _ _ _ _ c.in-Ok-InParent.ensures (ap Some c.in-Ok-InParent.field-0-is)

pub returns-in-Err : goal.returns-in-Err
returns-in-Err c = rw c.into.ensures (found_at _ _ _ _ c.in-Err.ensures refl)
