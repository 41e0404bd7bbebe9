-- What a reading answers.
use Rattle.std.specs.Prelude.{Result}
use Rattle.refusal.specs.declared.RefusedAt.{RefusedAt}
use Rattle.refusal.specs.Refusal.{Placed, placed_of}
use Rattle.record.specs.declared.Record.{Record}
use Rattle.record.specs.Record.{no_features}

-- what an answer says: the number of document 01, the place, and the record; a refused one has a record of no features
abbrev pub read_outcome : Result Record RefusedAt → Placed Record
read_outcome r = placed_of (λ (v : Record). v) no_features r
