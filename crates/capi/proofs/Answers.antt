-- Equal outcomes are equal answers, so that each promise decides its answer; of the other answers this stands in `answers`. Assumes nothing.
use mathlib.Core.Path.{◌≡◌, ap}
use Rattle.refusal.specs.Refusal.{Outcome, Placed}
use Rattle.record.specs.declared.Record.{Record}
use Rattle.capi.specs.Answers.{read_outcome_c}
use Rattle.capi.specs.Properties.{Part, property_outcome_c}
use Rattle.capi.specs.declared.tree.YebkuzanRead.{YebkuzanRead}
use Rattle.capi.specs.declared.cpu.YebkuzanProperty.{YebkuzanProperty}

pub same_read : (a b : YebkuzanRead) → read_outcome_c a ≡ read_outcome_c b → a ≡ b
same_read a b e = ap (λ (o : Placed Record). record { number = o.number; place = o.place; «record» = o.value }) e

pub same-property : (a b : YebkuzanProperty) → property_outcome_c a ≡ property_outcome_c b → a ≡ b
same-property a b e =
    ap (λ (o : Outcome Part). record { number = o.number; block = o.value.block; offset = o.value.offset; length = o.value.length }) e
