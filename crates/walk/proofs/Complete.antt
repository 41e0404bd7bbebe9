-- The token list of a block ends in a final token, whatever its bytes: the bound on its length never shows, and the walk comes to its
-- verdict before the list's end. Assumes nothing.
use mathlib.Core.Path.{◌≡◌, refl, sym, subst, ◌∙◌}
use mathlib.Core.Bool.{true, false, false≢true}
use mathlib.Core.List.{List, [], ◌∷◌}
use Prim.Native.Nat.{ℕ, zero, suc, ◌+◌, ◌-◌, ◌<◌, ◌≤◌}
use native.Mathlib.Omega.{arith}
use lib.ListN.{take, drop}
use Rattle.cells.specs.Cells.{cell_at}
use Rattle.strings.specs.Strings.{Text, ended, unended, text_at}
use Rattle.names.specs.Names.{is_node_name, is_root_name}
use Rattle.tokens.specs.Steps.{padded}
use Rattle.tokens.specs.Tokens.{Token, begin_node, end_node, property, nop, end, fault, after_name, after_begin, tokens}
use Rattle.tokens.specs.declared.Step.{Step}
use Rattle.tokens.proofs.TokenList.{Is, begins, ends, holds, skips, stops, cut, unknown, none, view, follow, tokens-step}
use Rattle.walk.specs.Walk.{State, Verdict, Next, go_on, stop, step, walk}
use Rattle.walk.specs.Faults.{offset_of}
use Rattle.walk.specs.Final.{is_final, EndsFinal, last, more, walk_or}
use Rattle.walk.proofs.StepCases.{Does, skips as passes, enters, takes, nests, leaves, step-does, verdict_after, walk-next}

-- an induction over the tokens of bytes: each but the last is not final, the last is, and none lies past the block's end
module _ (s : List ℕ) (limit : ℕ) (names : ℕ → Text) (P : List Token → Type 0)
    (one : (t : Token) → is_final t ≡ true → offset_of t ≤ limit → P (t ∷ []))
    (before : (t : Token) (ts : List Token) → is_final t ≡ false → offset_of t ≤ limit → P ts → P (t ∷ ts)) where
  by_token : (at : ℕ) → ((next : ℕ) → at + 4 ≤ next → at + 4 ≤ limit → P (tokens s limit names next))
      → {x : Step} → Is s limit at x → P (follow s limit names (tokens s limit names) x)
  by_token at rest (begins r e) = go (text_at s (at + 4) limit)
    where
      go : (name : Text) → P (begin_node at name ∷ after_begin (tokens s limit names) (at + 4) name)
      go (ended cs) = before (begin_node at (ended cs)) _ refl (omega arith) (rest (after_name (at + 4) cs) (omega arith) r)
      go unended = one (begin_node at unended) refl (omega arith)
  by_token at rest (ends r e) = before (end_node at) _ refl (omega arith) (rest (at + 4) (omega arith) r)
  by_token at rest (holds r e) =
      before (property at (names (cell_at s (at + 8))) (take (cell_at s (at + 4)) (drop (at + 12) s))) _ refl (omega arith)
      (rest (at + 12 + padded (cell_at s (at + 4))) (omega arith) (omega arith))
  by_token at rest (skips r e) = before (nop at) _ refl (omega arith) (rest (at + 4) (omega arith) r)
  by_token at rest (stops r e) = one (end at) refl (omega arith)
  by_token at rest (cut r e k) = one (fault at) refl (omega arith)
  by_token at rest (unknown r n1 n2 n3 n4 n9) = one (fault at) refl (omega arith)
  by_token at rest (none r) = one (fault limit) refl (omega arith)

  by-tokens : (n at : ℕ) → limit - at < n → P (tokens s limit names at)
  by-tokens zero at h = absurd (omega arith)
  by-tokens (suc n) at h =
      subst P (sym (tokens-step s limit names at refl)) (by_token at (λ next k r. by-tokens n next (omega arith)) (view s limit at))

  pub tokens-induct : (at : ℕ) → P (tokens s limit names at)
  tokens-induct at = by-tokens (suc (limit - at)) at (omega arith)

pub tokens-end : (s : List ℕ) (limit : ℕ) (names : ℕ → Text) (at : ℕ) → EndsFinal (tokens s limit names at)
tokens-end s limit names at = tokens-induct s limit names EndsFinal (λ t f o. last f) (λ t ts f o r. more f r) at

-- the walk stops at a final token
not_root : is_root_name unended ≡ true → ⊥
unfolding is_root_name
not_root h = false≢true h

not-node : is_node_name unended ≡ true → ⊥
unfolding is_node_name
not-node h = false≢true h

pub on-not-final : {e : ℕ} {q r : State} {t : Token} → Does e q t (go_on r) → is_final t ≡ false
on-not-final passes = refl
on-not-final (enters {name = ended cs} h) = refl
on-not-final (enters {name = unended} h) = absurd (not_root h)
on-not-final (nests {name = ended cs} i h l) = refl
on-not-final (nests {name = unended} i h l) = absurd (not-node h)
on-not-final (takes h k) = refl
on-not-final (leaves i) = refl

-- so what it would say of a list without one does not matter
module _ (v : Verdict) (e : ℕ) where
  same_after : (q : State) (t : Token) (ts : List Token) → ((r : State) → Does e q t (go_on r) → walk_or v e r ts ≡ walk e r ts) → walk_or v e q (t ∷ ts) ≡ walk e q (t ∷ ts)
  unfolding walk_or
  same_after q t ts f = go (step e q t) (step-does e q t) ∙ sym (walk-next e q t ts)
    where
      go : (x : Next) → Does e q t x → (elim x as (λ _. Verdict) [ go_on r ↦ walk_or v e r ts | stop w ↦ w ]) ≡ verdict_after e ts x
      go (go_on r) d = f r d
      go (stop w) d = refl

  walk_ends : {ts : List Token} → EndsFinal ts → (q : State) → walk_or v e q ts ≡ walk e q ts
  walk_ends (last {t} f) q = same_after q t [] (λ r d. absurd (false≢true (sym (on-not-final d) ∙ f)))
  walk_ends (more {t} {ts} f rest) q = same_after q t ts (λ r d. walk_ends rest r)

pub never-runs-out : (v : Verdict) (e : ℕ) (q : State) (s : List ℕ) (limit : ℕ) (names : ℕ → Text) (at : ℕ)
    → walk_or v e q (tokens s limit names at) ≡ walk e q (tokens s limit names at)
never-runs-out v e q s limit names at = walk_ends v e (tokens-end s limit names at) q
