-- How the token list of a block ends, so that the bound on its length never shows.
use Rattle.std.specs.Prelude.{ℕ, ◌≡◌, Bool, true, false, List, [], ◌∷◌}
use Rattle.strings.specs.Strings.{ended, unended}
use Rattle.tokens.specs.Tokens.{Token, begin_node, end_node, property, nop, end, fault}
use Rattle.walk.specs.Walk.{State, Verdict, go_on, stop, step}

-- nothing follows an end token, a fault, or a begin token whose name does not end
abbrev pub is_final : Token → Bool
is_final (begin_node at (ended name)) = false
is_final (begin_node at unended) = true
is_final (end_node at) = false
is_final (property at name value) = false
is_final (nop at) = false
is_final (end at) = true
is_final (fault at) = true

-- a list whose last token is final, and no other
pub data EndsFinal : List Token → Type 0 where
  last : {t : Token} → is_final t ≡ true → EndsFinal (t ∷ [])
  more : {t : Token} {ts : List Token} → is_final t ≡ false → EndsFinal ts → EndsFinal (t ∷ ts)

-- the walk with another verdict where the list ends too early
unfoldable pub walk_or : Verdict → ℕ → State → List Token → Verdict
walk_or v e q [] = v
walk_or v e q (t ∷ ts) = elim (step e q t) [ go_on r ↦ walk_or v e r ts | stop w ↦ w ]
