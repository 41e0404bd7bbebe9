-- Before the root and after it: NOPs, and the one token that is in place. Assumes nothing.
use mathlib.Core.Path.{◌≡◌, refl, sym, ap, ◌∙◌}
use mathlib.Core.Bool.{Bool, true, false}
use mathlib.Core.List.{List, [], ◌∷◌, ◌++◌, append_assoc}
use Prim.Native.Nat.{ℕ, suc, ◌+◌, ◌<◌, ◌≤◌}
use native.Mathlib.Omega.{arith}
use borrow.Author.Tests.{eqb-true, eq-eqb, ne_eqb}
use lib.ListN.{length, take, drop}
use Rattle.std.specs.Prelude.{Ok, Err}
use Rattle.refusal.specs.Refusal.{refused_at}
use Rattle.refusal.specs.declared.Refusal.TheVariants.{Token as TokenFault}
use Rattle.strings.specs.Strings.{Text, ended, unended, text_at, same_bytes}
use Rattle.strings.proofs.Strings.{text-within}
use Rattle.header.specs.declared.Blocks.{Blocks}
use Rattle.names.specs.Names.{is_root_name, root_name_at}
use Rattle.tokens.specs.declared.Cursor.{Cursor}
use Rattle.tokens.specs.declared.Step.TheVariants.{BeginNode, EndNode, Property, Nop, End, Fault}
use Rattle.tokens.specs.Steps.{padded, step_at}
use Rattle.tokens.specs.Tokens.{Token, begin_node, end_node, property, nop, end, fault}
use Rattle.tokens.proofs.TokenList.{Is, stops, seen, tokens-step, nop-moves, begin-moves}
use Rattle.walk.specs.Walk.{State, before_root, in_properties, after_root, Verdict, accepted, refused, stop, step, walk, name_in, tree_tokens}
use Rattle.walk.specs.declared.Containers.{Containers}
use Rattle.walk.specs.Parts.{none, notes, Passed, Ends}
use Rattle.walk.proofs.Fold.{walk-on, walk-stop}
use Rattle.walk.proofs.Flow.{notes-append}

-- only NOPs have been read
pub record Outside (s : List ℕ) (b : Blocks) (q : State) (from at : ℕ) : Type 0 where
  pub read : List Token
  pub split : tree_tokens s b from ≡ read ++ tree_tokens s b at
  pub nothing : (c : Containers) → notes c read ≡ c
  pub forward : from ≤ at
  pub same : walk b.end q (tree_tokens s b at) ≡ walk b.end q (tree_tokens s b from)

pub outside-begins : (s : List ℕ) (b : Blocks) (q : State) (from : ℕ) → Outside s b q from from
unfolding notes
outside-begins s b q from = record { read = []; split = refl; nothing = λ c. refl; forward = omega arith; same = refl }

module _ {s : List ℕ} {b : Blocks} {q : State} {from at : ℕ} (g : Outside s b q from at) where
  pub outside-nop : {t : ℕ} {c : Cursor} → step_at s b.end at ≡ Nop t c → Outside s b q from c.at
  unfolding notes step
  outside-nop {t} {c} e =
      let h = tokens-step s b.end (name_in s b) at e in
      let m = nop-moves s b.end at e in
      record {
        read = g.read ++ nop t ∷ [];
        split = g.split ∙ ap (λ (ts : List Token). g.read ++ ts) h ∙ sym (append_assoc g.read (nop t ∷ []) (tree_tokens s b c.at));
        nothing = λ c. notes-append c g.read (nop t ∷ []) ∙ g.nothing c;
        forward = omega (arith, g.forward, m.on);
        same = sym (walk-on b.end q (nop t) (tree_tokens s b c.at) refl) ∙ sym (ap (walk b.end q) h) ∙ g.same;
      }

  -- a token ends the walk
  pub outside-stops : (t : Token) (ts : List Token) {v : Verdict} → tree_tokens s b at ≡ t ∷ ts → step b.end q t ≡ stop v → walk b.end q (tree_tokens s b from) ≡ v
  outside-stops t ts h k = sym g.same ∙ ap (walk b.end q) h ∙ walk-stop b.end q t ts k

-- the root's begin token
root-named : (t : Text) → is_root_name t ≡ true → t ≡ ended []
unfolding is_root_name
root-named (ended []) e = refl
root-named (ended (c ∷ cs)) e = let z : suc (length cs) ≡ 0 = eqb-true (suc (length cs)) 0 e in absurd (omega arith)
root-named unended e = let z : ◌≡◌ {A = ℕ} 0 1 = cc in absurd (omega arith)

module _ {s : List ℕ} {b : Blocks} {from at : ℕ} (g : Outside s b before_root from at) {t : ℕ} {c : Cursor} (e : step_at s b.end at ≡ BeginNode t c) {r : Bool} (n : r ≡ root_name_at s c.at b.end) where
  pub root-enters : r ≡ true → (from ≤ c.at + 4) × Passed s b before_root from none (in_properties 1 []) (c.at + 4) none
  unfolding root_name_at step notes same_bytes padded is_root_name
  root-enters k =
      let m = begin-moves s b.end at e in
      let x : text_at s c.at b.end ≡ ended [] = root-named (text_at s c.at b.end) (sym n ∙ k) in
      let h : tree_tokens s b at ≡ begin_node t (ended []) ∷ tree_tokens s b (c.at + 4) = tokens-step s b.end (name_in s b) at e ∙ rw x in
      let u = begin_node t (ended []) in (
        omega (arith, g.forward, m.on),
        record {
          read = g.read ++ u ∷ [];
          split = g.split ∙ ap (λ (ts : List Token). g.read ++ ts) h ∙ sym (append_assoc g.read (u ∷ []) (tree_tokens s b (c.at + 4)));
          noted = sym (notes-append none g.read (u ∷ []) ∙ ap (λ (z : Containers). notes z (u ∷ [])) (g.nothing none));
          same = sym g.same ∙ ap (walk b.end before_root) h ∙ walk-on b.end before_root u (tree_tokens s b (c.at + 4)) refl;
        },
      )

  pub root-room : r ≡ true → c.at < length s
  unfolding root_name_at
  root-room k = let w = text-within s c.at b.end [] (root-named (text_at s c.at b.end) (sym n ∙ k)) in omega (arith, w.1)

  pub root-stops : r ≡ false → walk b.end before_root (tree_tokens s b from) ≡ refused 7 t
  unfolding root_name_at step
  root-stops k =
      let x : is_root_name (text_at s c.at b.end) ≡ false = sym n ∙ k in
      outside-stops g (begin_node t (text_at s c.at b.end)) _ (tokens-step s b.end (name_in s b) at e) (rw x)

module _ {s : List ℕ} {b : Blocks} {from at : ℕ} (g : Outside s b before_root from at) {t : ℕ} where
  pub root-end-node : {c : Cursor} → step_at s b.end at ≡ EndNode t c → walk b.end before_root (tree_tokens s b from) ≡ refused 6 t
  unfolding step
  root-end-node e = outside-stops g (end_node t) _ (tokens-step s b.end (name_in s b) at e) refl

  pub root-property : {v l o : ℕ} {c : Cursor} → step_at s b.end at ≡ Property t v l o c → walk b.end before_root (tree_tokens s b from) ≡ refused 6 t
  unfolding step
  root-property {v} {l} {o} e = outside-stops g (property t (name_in s b o) (take l (drop v s))) _ (tokens-step s b.end (name_in s b) at e) refl

  pub root-end : step_at s b.end at ≡ End t → walk b.end before_root (tree_tokens s b from) ≡ refused 6 t
  unfolding step
  root-end e = outside-stops g (end t) [] (tokens-step s b.end (name_in s b) at e) refl

  pub root-fault : step_at s b.end at ≡ Fault t → walk b.end before_root (tree_tokens s b from) ≡ refused 6 t
  unfolding step
  root-fault e = outside-stops g (fault t) [] (tokens-step s b.end (name_in s b) at e) refl

-- after the root
ends-refused : {s : List ℕ} {b : Blocks} {from t : ℕ} → walk b.end after_root (tree_tokens s b from) ≡ refused 6 t → Ends s b from (Err (refused_at TokenFault t))
ends-refused {s} {b} {from} {t} w = record { same = w; nothing = λ z. absurd (apart (sym w ∙ z)) }
  where
    apart : refused 6 t ≡ accepted → ⊥
    apart e = cc

module _ {s : List ℕ} {b : Blocks} {from at : ℕ} (g : Outside s b after_root from at) {t : ℕ} where
  pub last-accepted : step_at s b.end at ≡ End t → t + 4 ≡ b.end → Ends s b from (Ok tt)
  unfolding step notes
  last-accepted e k =
      let h = tokens-step s b.end (name_in s b) at e in
      record {
        same = outside-stops g (end t) [] h (rw (eq-eqb (t + 4) b.end k));
        nothing = λ _ c. ap (notes c) (g.split ∙ ap (λ (ts : List Token). g.read ++ ts) h) ∙ notes-append c g.read (end t ∷ []) ∙ g.nothing c;
      }

  pub last-early : step_at s b.end at ≡ End t → (t + 4 ≡ b.end → ⊥) → Ends s b from (Err (refused_at TokenFault t))
  unfolding step
  last-early e k = ends-refused (outside-stops g (end t) [] (tokens-step s b.end (name_in s b) at e) (rw (ne_eqb (t + 4) b.end k)))

  pub last-begin : {c : Cursor} → step_at s b.end at ≡ BeginNode t c → Ends s b from (Err (refused_at TokenFault t))
  unfolding step
  last-begin {c} e = ends-refused (outside-stops g (begin_node t (text_at s c.at b.end)) _ (tokens-step s b.end (name_in s b) at e) refl)

  pub last-end-node : {c : Cursor} → step_at s b.end at ≡ EndNode t c → Ends s b from (Err (refused_at TokenFault t))
  unfolding step
  last-end-node e = ends-refused (outside-stops g (end_node t) _ (tokens-step s b.end (name_in s b) at e) refl)

  pub last-property : {v l o : ℕ} {c : Cursor} → step_at s b.end at ≡ Property t v l o c → Ends s b from (Err (refused_at TokenFault t))
  unfolding step
  last-property {v} {l} {o} e = ends-refused (outside-stops g (property t (name_in s b o) (take l (drop v s))) _ (tokens-step s b.end (name_in s b) at e) refl)

  pub last-fault : step_at s b.end at ≡ Fault t → Ends s b from (Err (refused_at TokenFault t))
  unfolding step
  last-fault e = ends-refused (outside-stops g (fault t) [] (tokens-step s b.end (name_in s b) at e) refl)

end_is : {s : List ℕ} {stop at t : ℕ} → Is s stop at (End t) → (t ≡ at) × (at + 4 ≤ stop)
end_is (stops h k) = (refl, h)

pub end-room : (s : List ℕ) (limit at : ℕ) {t : ℕ} → step_at s limit at ≡ End t → (t ≡ at) × (at + 4 ≤ limit)
end-room s limit at e = end_is (seen s limit at e)
