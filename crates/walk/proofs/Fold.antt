-- One token of the walk. Assumes nothing.
use mathlib.Core.Path.{◌≡◌, ap}
use mathlib.Core.List.{List, ◌∷◌}
use Prim.Native.Nat.{ℕ}
use Rattle.tokens.specs.Tokens.{Token}
use Rattle.walk.specs.Walk.{State, Verdict, Next, go_on, stop, step, walk}

module _ (e : ℕ) (q : State) (t : Token) (ts : List Token) where
  pub walk-on : {r : State} → step e q t ≡ go_on r → walk e q (t ∷ ts) ≡ walk e r ts
  unfolding walk
  walk-on h = rw (h, walk)

  pub walk-stop : {v : Verdict} → step e q t ≡ stop v → walk e q (t ∷ ts) ≡ v
  unfolding walk
  walk-stop h = rw (h, walk)

-- two states in which it does the same
pub walk-alike : (e : ℕ) (q r : State) (t : Token) (ts : List Token) → step e q t ≡ step e r t → walk e q (t ∷ ts) ≡ walk e r (t ∷ ts)
unfolding walk
walk-alike e q r t ts h = ap (λ (x : Next). elim x as (λ _. Verdict) [ go_on p ↦ walk e p ts | stop v ↦ v ]) h
