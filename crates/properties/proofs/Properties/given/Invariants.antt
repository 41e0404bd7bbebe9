-- The invariant of `properties::Properties::given`: the tokens from the cursor on decide the whole.
use mathlib.Core.Path.{◌≡◌}
use Prim.Native.Nat.{◌-◌}
use Rattle.strings.specs.Strings.{text_at}
use Rattle.tokens.specs.Tokens.{tokens}
use Rattle.properties.specs.Properties.{name_at, given_before}
use Rattle.properties.proofs.Properties.given.Given as goal

abbrev pub invariant-loop-cursor : goal.invariant-loop-cursor
invariant-loop-cursor l =
    given_before l.t (text_at l.self.strings.bytes.now l.place l.self.strings.limit) (tokens l.self.bytes.now l.self.end (name_at l.self.strings.bytes.now l.self.strings.from l.self.strings.limit) l.cursor.at)
    ≡ given_before l.t (text_at l.self.strings.bytes.now l.place l.self.strings.limit) (tokens l.self.bytes.now l.self.end (name_at l.self.strings.bytes.now l.self.strings.from l.self.strings.limit) l.self.first)

abbrev pub decreases-loop-cursor : goal.decreases-loop-cursor
decreases-loop-cursor l = l.self.end - l.cursor.at
