-- The children of a node by the token at a place. Assumes nothing.
use mathlib.Core.Path.{◌≡◌, refl, sym, ap, ◌∙◌}
use mathlib.Core.List.{List, [], ◌∷◌}
use Prim.Native.Nat.{ℕ, zero, suc, ◌+◌, ◌-◌, ◌<◌, ◌≤◌}
use native.Mathlib.Omega.{arith}
use native.Mathlib.Numerals.{add-one}
use Rattle.strings.specs.Strings.{Text, ended, unended, text_at}
use Rattle.tokens.specs.declared.Cursor.{Cursor}
use Rattle.tokens.specs.declared.Step.TheVariants.{BeginNode, EndNode, Property, Nop, End, Fault}
use Rattle.tokens.specs.Steps.{step_at}
use Rattle.tokens.specs.Tokens.{Token, begin_node, end_node, tokens, after_begin}
use Rattle.tokens.proofs.TokenList.{tokens-step, Is, begins as is_begin, seen, property-moves, nop-moves, end-node-moves}
use Rattle.header.specs.declared.Blocks.{Blocks}
use Rattle.walk.specs.Walk.{name_in, tree_tokens}
use Rattle.nodes.specs.declared.Move.TheVariants.{Child, Past}
use Rattle.nodes.specs.declared.NodePlace.{NodePlace}
use Rattle.nodes.specs.Nodes.{Node, node, children_at}
use Rattle.nodes.specs.Values.{missing, value_in}
use Rattle.nodes.specs.Places.{next_behind}
use Rattle.nodes.specs.Parts.{Alike, Moved, child, past}
use Rattle.nodes.proofs.ValueLaws.{tokens-past}

abbrev place : ℕ → ℕ → ℕ → NodePlace
place at name behind = record { at = at; name = name; behind = behind }

-- no child begins past the end of the block
pub children-past : (s : List ℕ) (stop : ℕ) (names : ℕ → Text) (at : ℕ) → stop ≤ at → (depth : ℕ) → children_at depth (tokens s stop names at) ≡ []
unfolding children_at
children-past s stop names at h depth = rw (tokens-past s stop names at h)

-- nor does a property
value-past : (s : List ℕ) (stop : ℕ) (names : ℕ → Text) (at : ℕ) → stop ≤ at → (n : List ℕ) → value_in n (tokens s stop names at) ≡ missing
unfolding value_in
value-past s stop names at h n = rw (tokens-past s stop names at h)

-- the children of a node, by the token that comes first
children-child : (t : ℕ) (name : Text) (ts : List Token) → children_at 0 (begin_node t name ∷ ts) ≡ node t name ts ∷ children_at 1 ts
unfolding children_at
children-child t name ts = refl

children-deeper : (depth t : ℕ) (name : Text) (ts : List Token) → (depth ≡ 0 → ⊥) → children_at depth (begin_node t name ∷ ts) ≡ children_at (depth + 1) ts
unfolding children_at
children-deeper zero t name ts z = absurd (z refl)
children-deeper (suc depth) t name ts z = rw (add-one (suc depth))

children-up : (depth t : ℕ) (ts : List Token) → (depth ≡ 0 → ⊥) → children_at depth (end_node t ∷ ts) ≡ children_at (depth - 1) ts
unfolding children_at
children-up zero t ts z = absurd (z refl)
children-up (suc depth) t ts z = let e : suc depth - 1 ≡ depth = omega arith in rw e

children-end : (t : ℕ) (ts : List Token) → children_at 0 (end_node t ∷ ts) ≡ []
unfolding children_at
children-end t ts = refl

module _ (tree : List ℕ) (b : Blocks) where
  -- what is behind a begin token, by its name
  pub alike-behind : (from : ℕ) (t : Text) → Alike (after_begin (tree_tokens tree b) from t) (tree_tokens tree b (next_behind from b.end t))
  unfolding value_in children_at
  alike-behind from (ended name) = record { values = λ n. refl; nodes = λ depth. refl }
  alike-behind from unended =
      record {
        values = λ n. sym (value-past tree b.end (name_in tree b) b.end (omega arith) n);
        nodes = λ depth. sym (children-past tree b.end (name_in tree b) b.end (omega arith) depth);
      }

  further : (at : ℕ) (t : Text) → at < b.end → at < next_behind (at + 4) b.end t
  further at (ended name) h = omega arith
  further at unended h = h

  -- what a begin token is, by its step
  record Begins (at t : ℕ) (c : Cursor) : Type 0 where
    own : t ≡ at
    named : c.at ≡ at + 4

  begins : {at t : ℕ} {c : Cursor} → Is tree b.end at (BeginNode t c) → Begins at t c
  begins (is_begin r k) = record { own = refl; named = refl }

  module _ (depth at : ℕ) (h : at < b.end) (low : depth ≤ at) where
    -- where no child is left
    none_left : children_at depth (tree_tokens tree b at) ≡ [] → Moved tree b depth at (Past depth b.end)
    none_left e = past (e ∙ sym (children-past tree b.end (name_in tree b) b.end (omega arith) depth)) h (omega arith)

    module _ {t next : ℕ} {c : Cursor} (e : step_at tree b.end at ≡ BeginNode t c) (q : next ≡ next_behind c.at b.end (text_at tree c.at b.end)) where
      on : at < next
      on = rw (q, (begins (seen tree b.end at e)).named) (further at (text_at tree (at + 4) b.end) h)

      like : Alike (after_begin (tree_tokens tree b) c.at (text_at tree c.at b.end)) (tree_tokens tree b next)
      like = rw q (alike-behind c.at (text_at tree c.at b.end))

      pub move-child : depth ≡ 0 → Moved tree b depth at (Child t c.at next)
      move-child z =
          let w = begins (seen tree b.end at e) in
          let name = text_at tree c.at b.end in
          let k : t + 4 ≡ c.at = omega (arith, w.own, w.named) in
          child {n = node t name (after_begin (tree_tokens tree b) c.at name)}
          (rw (z, tokens-step tree b.end (name_in tree b) at e) (children-child t name _)
          ∙ ap (λ (ns : List Node). node t name (after_begin (tree_tokens tree b) c.at name) ∷ ns) (like.nodes 1))
          (ap (λ (x : ℕ). place t x (next_behind x b.end name)) k ∙ ap (place t c.at) (sym q))
          on

      pub move-deeper : (depth ≡ 0 → ⊥) → Moved tree b depth at (Past (depth + 1) next)
      move-deeper z =
          past (rw (tokens-step tree b.end (name_in tree b) at e) (children-deeper depth t _ _ z) ∙ like.nodes (depth + 1)) on (omega (arith, on))

    module _ {t : ℕ} {c : Cursor} (e : step_at tree b.end at ≡ EndNode t c) where
      pub move-ended : depth ≡ 0 → Moved tree b depth at (Past depth b.end)
      move-ended z = none_left (rw (z, tokens-step tree b.end (name_in tree b) at e) (children-end t _))

      pub move_up : (depth ≡ 0 → ⊥) → Moved tree b depth at (Past (depth - 1) c.at)
      move_up z =
          let m = end-node-moves tree b.end at e in
          past {d = depth - 1} {next = c.at} (rw (tokens-step tree b.end (name_in tree b) at e) (children-up depth t _ z)) (omega (arith, m.on)) (omega (arith, m.on))

    pub move-property : {t v l o : ℕ} {c : Cursor} → step_at tree b.end at ≡ Property t v l o c → Moved tree b depth at (Past depth c.at)
    unfolding children_at
    move-property {c = c} e =
        let m = property-moves tree b.end at e in
        past {d = depth} {next = c.at} (rw (tokens-step tree b.end (name_in tree b) at e)) (omega (arith, m.on)) (omega (arith, m.on))

    pub move-nop : {t : ℕ} {c : Cursor} → step_at tree b.end at ≡ Nop t c → Moved tree b depth at (Past depth c.at)
    unfolding children_at
    move-nop {c = c} e =
        let m = nop-moves tree b.end at e in
        past {d = depth} {next = c.at} (rw (tokens-step tree b.end (name_in tree b) at e)) (omega (arith, m.on)) (omega (arith, m.on))

    pub move-end : {t : ℕ} → step_at tree b.end at ≡ End t → Moved tree b depth at (Past depth b.end)
    unfolding children_at
    move-end e = none_left (rw (tokens-step tree b.end (name_in tree b) at e))

    pub move-fault : {t : ℕ} → step_at tree b.end at ≡ Fault t → Moved tree b depth at (Past depth b.end)
    unfolding children_at
    move-fault e = none_left (rw (tokens-step tree b.end (name_in tree b) at e))
