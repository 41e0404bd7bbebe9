-- The walk accepts the tokens of one tree, and no others. Assumes nothing.
use mathlib.Core.Path.{◌≡◌, refl, sym, ap, subst, ◌∙◌}
use mathlib.Core.Bool.{true, false, false≢true}
use mathlib.Core.List.{List, [], ◌∷◌, ◌++◌}
use mathlib.Core.Logic.{◌↔◌}
use Prim.Native.Nat.{ℕ, zero, suc, ◌+◌, ◌<◌, ◌≤◌}
use native.Mathlib.Omega.{arith}
use native.Mathlib.Numerals.{add-one}
use borrow.Author.Tests.{eq-eqb}
use Rattle.strings.specs.Strings.{Text}
use Rattle.header.specs.declared.Blocks.{Blocks}
use Rattle.names.specs.Names.{is_node_name, is_property_name, is_root_name}
use Rattle.properties.specs.Properties.{among}
use Rattle.tokens.specs.Tokens.{Token, begin_node, end_node, property, nop, end, fault}
use Rattle.walk.specs.Walk.{State, before_root, in_properties, in_children, after_root, accepted, refused, Next, go_on, stop, parent_of, most_levels, step, walk, name_in, tree_tokens}
use Rattle.walk.specs.Final.{is_final, EndsFinal, last, more}
use Rattle.walk.specs.Grammar.{without_nop_tokens, Properties, none, one, Nodes, ends, child, Tree, root}
use Rattle.walk.proofs.Fold.{walk-stop}
use Rattle.walk.proofs.Flow.{parent-of}
use Rattle.walk.proofs.StepCases.{InNode, early, late, Does, skips, enters, takes, nests, leaves, accepts, refuses, step-does, walk-does, verdict_after, walk-next}
use Rattle.walk.proofs.Complete.{tokens-end}

-- NOP tokens change nothing
walk_same : (e : ℕ) (t : Token) (us ts : List Token) → ((q : State) → walk e q us ≡ walk e q ts) → (q : State) → walk e q (t ∷ us) ≡ walk e q (t ∷ ts)
walk_same e t us ts f q = walk-next e q t us ∙ go (step e q t) ∙ sym (walk-next e q t ts)
  where
    go : (x : Next) → verdict_after e us x ≡ verdict_after e ts x
    go (go_on r) = f r
    go (stop v) = refl

pub walk-nops : (e : ℕ) (ts : List Token) (q : State) → walk e q (without_nop_tokens ts) ≡ walk e q ts
unfolding without_nop_tokens
walk-nops e [] q = refl
walk-nops e (begin_node at name ∷ ts) q = walk_same e (begin_node at name) (without_nop_tokens ts) ts (walk-nops e ts) q
walk-nops e (end_node at ∷ ts) q = walk_same e (end_node at) (without_nop_tokens ts) ts (walk-nops e ts) q
walk-nops e (property at name value ∷ ts) q = walk_same e (property at name value) (without_nop_tokens ts) ts (walk-nops e ts) q
walk-nops e (nop at ∷ ts) q = walk-nops e ts q ∙ sym (walk-does ts skips)
walk-nops e (end at ∷ ts) q = walk_same e (end at) (without_nop_tokens ts) ts (walk-nops e ts) q
walk-nops e (fault at ∷ ts) q = walk_same e (fault at) (without_nop_tokens ts) ts (walk-nops e ts) q

-- the walk through a part of the grammar
walk-properties : (e level : ℕ) {names : List Text} {ts rest : List Token} → Properties names ts rest
    → (all : List Text) × (walk e (in_properties level names) ts ≡ walk e (in_properties level all) rest)
walk-properties e level {names} none = (names, refl)
walk-properties e level (one {others = ts} h k p) = let r = walk-properties e level p in (r.0, walk-does ts (takes h k) ∙ r.1)

walk-nodes : (e : ℕ) {level : ℕ} {ts rest : List Token} → Nodes level ts rest → 1 ≤ level → {q : State} → InNode level q → walk e q ts ≡ walk e (parent_of level) rest
walk-nodes e (ends {rest = rest}) l i = walk-does rest (leaves i)
walk-nodes e (child {level} {contents = ts} {others = others} h k p inner outer) l i =
    let r = walk-properties e (level + 1) p in
    walk-does ts (nests i h k)
    ∙ r.1
    ∙ walk-nodes e inner (omega arith) early
    ∙ ap (λ (q : State). walk e q others) (parent-of level l)
    ∙ walk-nodes e outer l late

walk-tree : (e : ℕ) {ts : List Token} → Tree e ts → walk e before_root ts ≡ accepted
unfolding step
walk-tree e (root {last = at} {contents = ts} h p n k) =
    let r = walk-properties e 1 p in
    walk-does ts (enters h) ∙ r.1 ∙ walk-nodes e n (omega arith) early ∙ walk-stop e after_root (end at) [] (rw (eq-eqb (at + 4) e k))

pub tree-accepted : (e : ℕ) (ts : List Token) → Tree e (without_nop_tokens ts) → walk e before_root ts ≡ accepted
tree-accepted e ts t = sym (walk-nops e ts before_root) ∙ walk-tree e t

not-accepted : {number place : ℕ} → refused number place ≡ accepted → ⊥
not-accepted h = let z : ◌≡◌ {A = ℕ} 0 1 = cc in omega arith

-- what an accepted walk has still to read: the nodes of the levels that it is in, and the end token in the last cell
data Closing (e : ℕ) : ℕ → List Token → Type 0 where
  closed : {at : ℕ} → at + 4 ≡ e → Closing e 0 (end at ∷ [])
  within : {level : ℕ} {ts rest : List Token} → Nodes (suc level) ts rest → Closing e level rest → Closing e (suc level) ts

-- the same before the child nodes of a node
data Inside (e level : ℕ) (names : List Text) (ts : List Token) : Type 0 where
  inside : {rest : List Token} → Properties names ts rest → Closing e level rest → Inside e level names ts

-- the same by the walk's state
abbrev Left : ℕ → State → List Token → Type 0
Left e before_root ts = Tree e ts
Left e (in_properties level names) ts = 1 ≤ level → Inside e level names ts
Left e (in_children level) ts = 1 ≤ level → Closing e level ts
Left e after_root ts = Closing e 0 ts

-- before a token, by what is left after it
module _ {e : ℕ} {ts : List Token} where
  left-root : {at : ℕ} {name : Text} → is_root_name name ≡ true → Inside e 1 [] ts → Tree e (begin_node at name ∷ ts)
  left-root h (inside p (within n (closed k))) = root h p n k

  left-property : {level at : ℕ} {names : List Text} {name : Text} {value : List ℕ} → is_property_name name ≡ true → among name names ≡ false
      → Inside e level (names ++ name ∷ []) ts → Inside e level names (property at name value ∷ ts)
  left-property h k (inside p c) = inside (one h k p) c

  left-in-node : {level : ℕ} {q : State} → InNode level q → (1 ≤ level → Closing e level ts) → Left e q ts
  left-in-node early f = λ w. inside none (f w)
  left-in-node late f = f

module _ (e : ℕ) (ts : List Token) (at : ℕ) where
  left-child : (level : ℕ) {name : Text} → is_node_name name ≡ true → level < most_levels → (1 ≤ level + 1 → Inside e (level + 1) [] ts)
      → 1 ≤ level → Closing e level (begin_node at name ∷ ts)
  left-child zero h k f w = absurd (omega arith)
  left-child (suc level) {name} h k f w = go (subst (λ (l : ℕ). Inside e l [] ts) (add-one (suc level)) (f (omega arith)))
    where
      go : Inside e (suc (suc level)) [] ts → Closing e (suc level) (begin_node at name ∷ ts)
      go (inside p (within {ts = us} {rest = vs} n (within m c))) =
          within (child h k p (subst (λ (l : ℕ). Nodes l us vs) (sym (add-one (suc level))) n) m) c

  left_end : (level : ℕ) → Left e (parent_of level) ts → 1 ≤ level → Closing e level (end_node at ∷ ts)
  left_end zero l w = absurd (omega arith)
  left_end (suc zero) l w = within ends l
  left_end (suc (suc level)) l w =
      let p : parent_of (suc (suc level)) ≡ in_children (suc level) = ap parent_of (sym (add-one (suc level))) ∙ parent-of (suc level) (omega arith) in
      within ends (subst (λ (q : State). Left e q ts) p l (omega arith))

module _ (e : ℕ) (ts : List Token) (after : (q : State) → walk e q ts ≡ accepted → Left e q (without_nop_tokens ts)) where
  left-by-token : {q : State} {t : Token} {x : Next} → Does e q t x → (is_final t ≡ true → ts ≡ []) → verdict_after e ts x ≡ accepted → Left e q (without_nop_tokens (t ∷ ts))
  unfolding without_nop_tokens
  left-by-token {q} skips f h = after q h
  left-by-token (enters k) f h = left-root k (after (in_properties 1 []) h (omega arith))
  left-by-token (takes {level} {names = names} {name} k m) f h = λ w. left-property k m (after (in_properties level (names ++ name ∷ [])) h w)
  left-by-token (nests {level} {at} i k m) f h = left-in-node i (left-child e (without_nop_tokens ts) at level k m (after (in_properties (level + 1) []) h))
  left-by-token (leaves {level} {at} i) f h = left-in-node i (left_end e (without_nop_tokens ts) at level (after (parent_of level) h))
  left-by-token (accepts {at} k) f h = subst (λ (us : List Token). Closing e 0 (end at ∷ without_nop_tokens us)) (sym (f refl)) (closed k)
  left-by-token (refuses n k m) f h = absurd (not-accepted h)

accepted-left : (e : ℕ) {ts : List Token} → EndsFinal ts → (q : State) → walk e q ts ≡ accepted → Left e q (without_nop_tokens ts)
unfolding walk
accepted-left e (last {t} k) q h = left-by-token e [] (λ r g. absurd (not-accepted g)) (step-does e q t) (λ f. refl) (sym (walk-next e q t []) ∙ h)
accepted-left e (more {t} {ts} k rest) q h =
    left-by-token e ts (accepted-left e rest) (step-does e q t) (λ f. absurd (false≢true (sym k ∙ f))) (sym (walk-next e q t ts) ∙ h)

pub accepted-tree : (e : ℕ) (ts : List Token) → EndsFinal ts → walk e before_root ts ≡ accepted → Tree e (without_nop_tokens ts)
accepted-tree e ts f h = accepted-left e f before_root h

-- the tokens of bytes
pub accepts-trees : (tree : List ℕ) (b : Blocks)
    → walk b.end before_root (tree_tokens tree b b.start) ≡ accepted ↔ Tree b.end (without_nop_tokens (tree_tokens tree b b.start))
accepts-trees tree b = (
  accepted-tree b.end (tree_tokens tree b b.start) (tokens-end tree b.end (name_in tree b) b.start),
  tree-accepted b.end (tree_tokens tree b b.start),
)
