-- The cursor's step and the list of tokens: one equation for each kind of token. Assumes nothing.
use mathlib.Core.Path.{◌≡◌, refl, sym, ap, subst, ◌∙◌}
use mathlib.Core.List.{List, [], ◌∷◌}
use Prim.Native.Nat.{ℕ, zero, suc, ◌+◌, ◌-◌, ◌<◌, ◌≤◌, min}
use native.Mathlib.Omega.{arith}
use native.Mathlib.Decide.{dec_le, ℕ_discrete}
use lib.ListN.{length, take, drop}
use Rattle.cells.specs.Cells.{cell_at}
use Rattle.strings.specs.Strings.{Text, ended, unended, text_at}
use Rattle.tokens.specs.declared.Cursor.{Cursor}
use Rattle.tokens.specs.declared.Step.{Step}
use Rattle.tokens.specs.declared.Step.TheVariants.{BeginNode, EndNode, Property, Nop, End, Fault}
use Rattle.tokens.specs.Steps.{cursor, padded, property_at, step_at}
use Rattle.tokens.specs.Tokens.{Token, begin_node, end_node, property, nop, end, fault, after_name, after_begin, tokens_from, tokens}
use Rattle.tokens.proofs.Stepping.{step-none, step-begin, step-end-node, step-property, step-nop, step_end, step-unknown, property-short, property-cut, property-whole}

-- what a step can be, with what is known of the bytes there
pub data Is (s : List ℕ) (stop at : ℕ) : Step → Type 0 where
  begins : at + 4 ≤ stop → cell_at s at ≡ 1 → Is s stop at (BeginNode at (cursor (at + 4)))
  ends : at + 4 ≤ stop → cell_at s at ≡ 2 → Is s stop at (EndNode at (cursor (at + 4)))
  holds : at + 12 + padded (cell_at s (at + 4)) ≤ stop → cell_at s at ≡ 3 → Is s stop at (Property at (at + 12) (cell_at s (at + 4)) (cell_at s (at + 8)) (cursor (at + 12 + padded (cell_at s (at + 4)))))
  skips : at + 4 ≤ stop → cell_at s at ≡ 4 → Is s stop at (Nop at (cursor (at + 4)))
  stops : at + 4 ≤ stop → cell_at s at ≡ 9 → Is s stop at (End at)
  cut : at + 4 ≤ stop → cell_at s at ≡ 3 → stop < at + 12 + padded (cell_at s (at + 4)) → Is s stop at (Fault at)
  unknown : at + 4 ≤ stop → (cell_at s at ≡ 1 → ⊥) → (cell_at s at ≡ 2 → ⊥) → (cell_at s at ≡ 3 → ⊥) → (cell_at s at ≡ 4 → ⊥) → (cell_at s at ≡ 9 → ⊥) → Is s stop at (Fault at)
  none : stop < at + 4 → Is s stop at (Fault stop)

pub view : (s : List ℕ) (stop at : ℕ) → Is s stop at (step_at s stop at)
view s stop at = go (dec_le (at + 4) stop)
  where
    from : {x : Step} → step_at s stop at ≡ x → Is s stop at x → Is s stop at (step_at s stop at)
    from e v = subst (λ (x : Step). Is s stop at x) (sym e) v

    whole : at + 4 ≤ stop → cell_at s at ≡ 3 → Is s stop at (property_at s stop at)
    whole r e = fits (dec_le (at + 12) stop)
      where
        to : {x : Step} → property_at s stop at ≡ x → Is s stop at x → Is s stop at (property_at s stop at)
        to q v = subst (λ (x : Step). Is s stop at x) (sym q) v

        room : at + 12 ≤ stop → Dec (at + 12 + padded (cell_at s (at + 4)) ≤ stop) → Is s stop at (property_at s stop at)
        room h (yes k) = to (property-whole s stop at h k) (holds k e)
        room h (no k) = to (property-cut s stop at h (omega arith)) (cut r e (omega arith))

        fits : Dec (at + 12 ≤ stop) → Is s stop at (property_at s stop at)
        fits (yes h) = room h (dec_le (at + 12 + padded (cell_at s (at + 4))) stop)
        fits (no h) = to (property-short s stop at (omega arith)) (cut r e (omega arith))

    five : at + 4 ≤ stop → (cell_at s at ≡ 1 → ⊥) → (cell_at s at ≡ 2 → ⊥) → (cell_at s at ≡ 3 → ⊥) → (cell_at s at ≡ 4 → ⊥) → Dec (cell_at s at ≡ 9) → Is s stop at (step_at s stop at)
    five r n1 n2 n3 n4 (yes e) = from (step_end s stop at r e) (stops r e)
    five r n1 n2 n3 n4 (no n9) = from (step-unknown s stop at r n1 n2 n3 n4 n9) (unknown r n1 n2 n3 n4 n9)

    four : at + 4 ≤ stop → (cell_at s at ≡ 1 → ⊥) → (cell_at s at ≡ 2 → ⊥) → (cell_at s at ≡ 3 → ⊥) → Dec (cell_at s at ≡ 4) → Is s stop at (step_at s stop at)
    four r n1 n2 n3 (yes e) = from (step-nop s stop at r e) (skips r e)
    four r n1 n2 n3 (no n4) = five r n1 n2 n3 n4 (ℕ_discrete (cell_at s at) 9)

    three : at + 4 ≤ stop → (cell_at s at ≡ 1 → ⊥) → (cell_at s at ≡ 2 → ⊥) → Dec (cell_at s at ≡ 3) → Is s stop at (step_at s stop at)
    three r n1 n2 (yes e) = from (step-property s stop at r e) (whole r e)
    three r n1 n2 (no n3) = four r n1 n2 n3 (ℕ_discrete (cell_at s at) 4)

    two : at + 4 ≤ stop → (cell_at s at ≡ 1 → ⊥) → Dec (cell_at s at ≡ 2) → Is s stop at (step_at s stop at)
    two r n1 (yes e) = from (step-end-node s stop at r e) (ends r e)
    two r n1 (no n2) = three r n1 n2 (ℕ_discrete (cell_at s at) 3)

    one : at + 4 ≤ stop → Dec (cell_at s at ≡ 1) → Is s stop at (step_at s stop at)
    one r (yes e) = from (step-begin s stop at r e) (begins r e)
    one r (no n1) = two r n1 (ℕ_discrete (cell_at s at) 2)

    go : Dec (at + 4 ≤ stop) → Is s stop at (step_at s stop at)
    go (yes r) = one r (ℕ_discrete (cell_at s at) 1)
    go (no r) = from (step-none s stop at (omega arith)) (none (omega arith))

-- the bound on the list's length does not show
module _ (s : List ℕ) (stop : ℕ) (names : ℕ → Text) where
  -- the list from a place, by the step and the name there
  abbrev pub follow : (ℕ → List Token) → Step → List Token
  follow rest (BeginNode t name) = begin_node t (text_at s name.at stop) ∷ after_begin rest name.at (text_at s name.at stop)
  follow rest (EndNode t next) = end_node t ∷ rest next.at
  follow rest (Property t value length name next) = property t (names name) (take length (drop value s)) ∷ rest next.at
  follow rest (Nop t next) = nop t ∷ rest next.at
  follow rest (End t) = end t ∷ []
  follow rest (Fault t) = fault t ∷ []

  unfolded : (n at : ℕ) → tokens_from (suc n) s stop names at ≡ follow (tokens_from n s stop names) (step_at s stop at)
  unfolding tokens_from
  unfolded n at = go (step_at s stop at)
    where
      go : (x : Step) → (elim x as (λ _. List Token) [ BeginNode t name ↦ begin_node t (text_at s name.at stop) ∷ after_begin (tokens_from n s stop names) name.at (text_at s name.at stop) | EndNode t next ↦ end_node t ∷ tokens_from n s stop names next.at | Property t value length name next ↦ property t (names name) (take length (drop value s)) ∷ tokens_from n s stop names next.at | Nop t next ↦ nop t ∷ tokens_from n s stop names next.at | End t ↦ end t ∷ [] | Fault t ↦ fault t ∷ [] ]) ≡ follow (tokens_from n s stop names) x
      go (BeginNode t name) = refl
      go (EndNode t next) = refl
      go (Property t value length name next) = refl
      go (Nop t next) = refl
      go (End t) = refl
      go (Fault t) = refl

  -- two continuations that agree on what lies further on
  same-follow : (f g : ℕ → List Token) (at : ℕ) {x : Step} → Is s stop at x → ((next : ℕ) → stop - next < stop - at → f next ≡ g next) → follow f x ≡ follow g x
  same-follow f g at (begins r e) h = ap (λ (ts : List Token). begin_node at (text_at s (at + 4) stop) ∷ ts) (named (text_at s (at + 4) stop))
    where
      named : (n : Text) → after_begin f (at + 4) n ≡ after_begin g (at + 4) n
      named (ended cs) = h (after_name (at + 4) cs) (omega arith)
      named unended = refl
  same-follow f g at (ends r e) h = ap (λ (ts : List Token). end_node at ∷ ts) (h (at + 4) (omega arith))
  same-follow f g at (holds r e) h = ap (λ (ts : List Token). property at (names (cell_at s (at + 8))) (take (cell_at s (at + 4)) (drop (at + 12) s)) ∷ ts) (h (at + 12 + padded (cell_at s (at + 4))) (omega arith))
  same-follow f g at (skips r e) h = ap (λ (ts : List Token). nop at ∷ ts) (h (at + 4) (omega arith))
  same-follow f g at (stops r e) h = refl
  same-follow f g at (cut r e k) h = refl
  same-follow f g at (unknown r n1 n2 n3 n4 n9) h = refl
  same-follow f g at (none r) h = refl

  bound : (n m at : ℕ) → stop - at < n → stop - at < m → tokens_from n s stop names at ≡ tokens_from m s stop names at
  bound zero m at h k = absurd (omega arith)
  bound (suc n) zero at h k = absurd (omega arith)
  bound (suc n) (suc m) at h k =
      unfolded n at
      ∙ same-follow (tokens_from n s stop names) (tokens_from m s stop names) at (view s stop at) (λ next l. bound n m next (omega arith) (omega arith))
      ∙ sym (unfolded m at)

  -- the tokens from a place, by the step there
  pub tokens-step : (at : ℕ) {x : Step} → step_at s stop at ≡ x → tokens s stop names at ≡ follow (tokens s stop names) x
  unfolding tokens
  tokens-step at {x} e =
      unfolded (stop - at) at
      ∙ same-follow (tokens_from (stop - at) s stop names) (tokens s stop names) at (view s stop at) (λ next l. bound (stop - at) (suc (stop - next)) next l (omega arith))
      ∙ ap (follow (tokens s stop names)) e

-- a token stands where the cursor is, and what follows lies further on, within the block
pub record Moves (stop at t next : ℕ) : Type 0 where
  pub here : t ≡ at
  pub room : at + 4 ≤ stop
  pub on : at + 4 ≤ next
  pub within : next ≤ stop

module _ {s : List ℕ} {stop at : ℕ} where
  property-is : {t v l o : ℕ} {c : Cursor} → Is s stop at (Property t v l o c) → Moves stop at t c.at
  property-is (holds r e) = record { here = refl; room = omega arith; on = omega arith; within = r }

  nop-is : {t : ℕ} {c : Cursor} → Is s stop at (Nop t c) → Moves stop at t c.at
  nop-is (skips r e) = record { here = refl; room = r; on = omega arith; within = r }

  end-node-is : {t : ℕ} {c : Cursor} → Is s stop at (EndNode t c) → Moves stop at t c.at
  end-node-is (ends r e) = record { here = refl; room = r; on = omega arith; within = r }

  begin-is : {t : ℕ} {c : Cursor} → Is s stop at (BeginNode t c) → Moves stop at t c.at
  begin-is (begins r e) = record { here = refl; room = r; on = omega arith; within = r }

  end_is : {t : ℕ} → Is s stop at (End t) → t ≡ at
  end_is (stops r e) = refl

  -- a fault stands where the cursor is, or at the block's end
  fault-is : {t : ℕ} → step_at s stop at ≡ Fault t → Is s stop at (Fault t) → (min at stop ≤ t) × (step_at s stop t ≡ Fault t)
  fault-is q (cut r e k) = (omega arith, q)
  fault-is q (unknown r n1 n2 n3 n4 n9) = (omega arith, q)
  fault-is q (none r) = (omega arith, step-none s stop stop (omega arith))

module _ (s : List ℕ) (stop at : ℕ) where
  pub seen : {x : Step} → step_at s stop at ≡ x → Is s stop at x
  seen e = subst (Is s stop at) e (view s stop at)

  pub property-moves : {t v l o : ℕ} {c : Cursor} → step_at s stop at ≡ Property t v l o c → Moves stop at t c.at
  property-moves e = property-is (seen e)

  pub nop-moves : {t : ℕ} {c : Cursor} → step_at s stop at ≡ Nop t c → Moves stop at t c.at
  nop-moves e = nop-is (seen e)

  pub end-node-moves : {t : ℕ} {c : Cursor} → step_at s stop at ≡ EndNode t c → Moves stop at t c.at
  end-node-moves e = end-node-is (seen e)

  pub begin-moves : {t : ℕ} {c : Cursor} → step_at s stop at ≡ BeginNode t c → Moves stop at t c.at
  begin-moves e = begin-is (seen e)

  pub end-here : {t : ℕ} → step_at s stop at ≡ End t → t ≡ at
  end-here e = end_is (seen e)

  pub fault-stays : {t : ℕ} → step_at s stop at ≡ Fault t → (min at stop ≤ t) × (step_at s stop t ≡ Fault t)
  fault-stays e = fault-is e (seen e)
