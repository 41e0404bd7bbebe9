-- The first faulty token decides a refusal of the walk: its number and its place. Assumes nothing.
use mathlib.Core.Path.{◌≡◌, refl, sym, ap, subst, ◌∙◌}
use mathlib.Core.Bool.{false≢true}
use mathlib.Core.List.{List, [], ◌∷◌, ◌++◌}
use Prim.Native.Nat.{ℕ, ◌≤◌}
use native.Mathlib.Omega.{arith}
use Rattle.strings.specs.Strings.{Text}
use Rattle.tokens.specs.Tokens.{Token, tokens}
use Rattle.walk.specs.Walk.{State, Verdict, accepted, refused, Next, go_on, stop, step, walk}
use Rattle.walk.specs.Final.{EndsFinal, last, more}
use Rattle.walk.specs.Faults.{offset_of, FirstFault}
use Rattle.walk.proofs.Fold.{walk-on}
use Rattle.walk.proofs.StepCases.{Does, accepts, refuses, step-does, verdict_after, walk-next}
use Rattle.walk.proofs.Complete.{on-not-final, tokens-end, tokens-induct}

not-refused : {number place : ℕ} → accepted ≡ refused number place → ⊥
not-refused h = let z : ◌≡◌ {A = ℕ} 0 1 = cc in omega arith

-- the first token refuses
fault-here : {e : ℕ} {q : State} {t : Token} {v : Verdict} → Does e q t (stop v) → (ts : List Token) {number place : ℕ} → step e q t ≡ stop v → v ≡ refused number place
    → FirstFault e q (t ∷ ts) number place
fault-here (accepts k) ts s h = absurd (not-refused h)
fault-here {q = q} {t} (refuses n l m) ts {number} {place} s h =
    let a : n ≡ number = cc in
    let b : offset_of t ≡ place = cc in
    record {
      passed = [];
      faulty = t;
      others = ts;
      split = refl;
      there = q;
      goes_on = λ us. refl;
      refuses = s ∙ ap stop h;
      at_token = sym b;
      least = omega arith;
      most = omega arith;
    }

module _ (e : ℕ) (q : State) (t : Token) (ts : List Token) {number place : ℕ} where
  -- it is passed, and one of the others refuses
  fault-later : {r : State} → step e q t ≡ go_on r → FirstFault e r ts number place → FirstFault e q (t ∷ ts) number place
  fault-later k g = record {
    passed = t ∷ g.passed;
    faulty = g.faulty;
    others = g.others;
    split = ap (λ (us : List Token). t ∷ us) g.split;
    there = g.there;
    goes_on = λ us. walk-on e q t (g.passed ++ us) k ∙ g.goes_on us;
    refuses = g.refuses;
    at_token = g.at_token;
    least = g.least;
    most = g.most;
  }

  fault-by-token : ((r : State) → Does e q t (go_on r) → walk e r ts ≡ refused number place → FirstFault e r ts number place)
      → walk e q (t ∷ ts) ≡ refused number place → FirstFault e q (t ∷ ts) number place
  fault-by-token f h = go (step e q t) (step-does e q t) refl (sym (walk-next e q t ts) ∙ h)
    where
      go : (x : Next) → Does e q t x → step e q t ≡ x → verdict_after e ts x ≡ refused number place → FirstFault e q (t ∷ ts) number place
      go (go_on r) d k g = fault-later k (f r d g)
      go (stop v) d k g = fault-here d ts k g

module _ (e : ℕ) {number place : ℕ} where
  pub first-fault : {ts : List Token} → EndsFinal ts → (q : State) → walk e q ts ≡ refused number place → FirstFault e q ts number place
  first-fault (last {t} k) q h = fault-by-token e q t [] (λ r d g. absurd (false≢true (sym (on-not-final d) ∙ k))) h
  first-fault (more {t} {ts} k rest) q h = fault-by-token e q t ts (λ r d g. first-fault rest r g) h

  -- the tokens of bytes
  pub tokens-fault : (s : List ℕ) (limit : ℕ) (names : ℕ → Text) (at : ℕ) (q : State) → walk e q (tokens s limit names at) ≡ refused number place
      → FirstFault e q (tokens s limit names at) number place
  tokens-fault s limit names at q h = first-fault (tokens-end s limit names at) q h

-- a token's offset is not past the block's end
abbrev Within : ℕ → List Token → Type 0
Within limit [] = Unit {0}
Within limit (t ∷ ts) = (offset_of t ≤ limit) × Within limit ts

within-split : (limit : ℕ) (ts : List Token) (t : Token) (us : List Token) → Within limit (ts ++ t ∷ us) → offset_of t ≤ limit
within-split limit [] t us h = h.0
within-split limit (u ∷ ts) t us h = within-split limit ts t us h.1

pub fault-within : (s : List ℕ) (limit : ℕ) (names : ℕ → Text) (at : ℕ) {e : ℕ} {q : State} {number place : ℕ} → FirstFault e q (tokens s limit names at) number place → place ≤ limit
fault-within s limit names at f =
    let all = tokens-induct s limit names (Within limit) (λ t k o. (o, tt)) (λ t ts k o r. (o, r)) at in
    let o = within-split limit f.passed f.faulty f.others (subst (Within limit) f.split all) in
    omega (arith, f.at_token)
