-- What holds of every token behind the begin token of a container holds of its features' begin tokens and of its properties. A name is the
-- string behind its token, and a node name; a value is a part of the tree. Assumes nothing.
use mathlib.Core.Path.{◌≡◌, refl, sym, ap, subst, ◌∙◌}
use mathlib.Core.Bool.{Bool, true, false, false≢true}
use mathlib.Core.List.{List, [], ◌∷◌}
use Prim.Native.Nat.{ℕ, zero, suc, ◌+◌, ◌-◌, ◌<◌}
use native.Mathlib.Omega.{arith}
use lib.Dec.{ltb}
use lib.ListN.{length, take, drop}
use Rattle.cells.specs.Cells.{cell_at}
use Rattle.strings.specs.Strings.{Text, ended, unended, text_at}
use Rattle.header.specs.declared.Blocks.{Blocks}
use Rattle.header.specs.Header.{blocks_of}
use Rattle.names.specs.Names.{same_text, is_node_name}
use Rattle.tokens.specs.declared.Step.{Step}
use Rattle.tokens.specs.Steps.{pick, padded}
use Rattle.tokens.specs.Tokens.{Token, begin_node, end_node, property, nop, end, fault, after_name, after_begin}
use Rattle.tokens.proofs.TokenList.{tokens-step, follow, view, Is, begins, ends, holds, skips, stops, cut, unknown, none}
use Rattle.walk.specs.Walk.{State, before_root, in_properties, in_children, after_root, Verdict, accepted, refused, Next, go_on, stop, parent_of, step, walk, name_in, tree_tokens}
use Rattle.walk.specs.Final.{is_final, EndsFinal, last, more}
use Rattle.walk.specs.Faults.{all_tokens}
use Rattle.walk.proofs.StepCases.{Does, skips as passes, enters, takes, nests, leaves, accepts, refuses, step-does, verdict_after, walk-next}
use Rattle.walk.proofs.Complete.{tokens-end, on-not-final}
use Rattle.nodes.specs.Nodes.{Node, node, node_at, nodes_named, children_at}
use Rattle.nodes.specs.Values.{value as given, value_in}

module _ (P : Token → Type 0) where
  -- every one of some tokens
  abbrev pub All : List Token → Type 0
  All [] = Unit {0}
  All (t ∷ ts) = P t × All ts

  -- every token that is behind a begin token
  abbrev pub Behind : List Token → Type 0
  Behind [] = Unit {0}
  Behind (begin_node at name ∷ ts) = All ts × Behind ts
  Behind (end_node at ∷ ts) = Behind ts
  Behind (property at name value ∷ ts) = Behind ts
  Behind (nop at ∷ ts) = Behind ts
  Behind (end at ∷ ts) = Behind ts
  Behind (fault at ∷ ts) = Behind ts

  pub all-behind : (ts : List Token) → All ts → Behind ts
  all-behind [] h = tt
  all-behind (begin_node at name ∷ ts) h = (h.1, all-behind ts h.1)
  all-behind (end_node at ∷ ts) h = all-behind ts h.1
  all-behind (property at name value ∷ ts) h = all-behind ts h.1
  all-behind (nop at ∷ ts) h = all-behind ts h.1
  all-behind (end at ∷ ts) h = all-behind ts h.1
  all-behind (fault at ∷ ts) h = all-behind ts h.1

  -- nodes with what is behind them
  abbrev AllInside : List Node → Type 0
  AllInside [] = Unit {0}
  AllInside (n ∷ ns) = All n.behind × AllInside ns

  inside-at : (ns : List Node) (i : ℕ) → AllInside ns → All (node_at ns i).behind
  unfolding node_at
  inside-at [] i h = tt
  inside-at (n ∷ ns) zero h = h.0
  inside-at (n ∷ ns) (suc i) h = inside-at ns i h.1

  named-inside : (n : List ℕ) (ts : List Token) → Behind ts → AllInside (nodes_named n ts)
  unfolding nodes_named
  named-inside n [] h = tt
  named-inside n (begin_node at name ∷ ts) h = go (same_text name (ended n)) (named-inside n ts h.1)
    where
      go : (b : Bool) → AllInside (nodes_named n ts) → AllInside (pick b (node at name ts ∷ nodes_named n ts) (nodes_named n ts))
      go true k = (h.0, k)
      go false k = k
  named-inside n (end_node at ∷ ts) h = named-inside n ts h
  named-inside n (property at name value ∷ ts) h = named-inside n ts h
  named-inside n (nop at ∷ ts) h = named-inside n ts h
  named-inside n (end at ∷ ts) h = named-inside n ts h
  named-inside n (fault at ∷ ts) h = named-inside n ts h

  -- nodes by their begin tokens
  abbrev AllBegin : List Node → Type 0
  AllBegin [] = Unit {0}
  AllBegin (n ∷ ns) = P (begin_node n.at n.name) × AllBegin ns

  begin-at : (ns : List Node) (i : ℕ) → i < length ns → AllBegin ns → P (begin_node (node_at ns i).at (node_at ns i).name)
  unfolding node_at
  begin-at [] i l h = absurd (omega arith)
  begin-at (n ∷ ns) zero l h = h.0
  begin-at (n ∷ ns) (suc i) l h = begin-at ns i (omega arith) h.1

  children-begin : (depth : ℕ) (ts : List Token) → All ts → AllBegin (children_at depth ts)
  unfolding children_at
  children-begin depth [] h = tt
  children-begin zero (begin_node at name ∷ ts) h = (h.0, children-begin 1 ts h.1)
  children-begin (suc depth) (begin_node at name ∷ ts) h = children-begin (suc (suc depth)) ts h.1
  children-begin zero (end_node at ∷ ts) h = tt
  children-begin (suc depth) (end_node at ∷ ts) h = children-begin depth ts h.1
  children-begin depth (property at name value ∷ ts) h = children-begin depth ts h.1
  children-begin depth (nop at ∷ ts) h = children-begin depth ts h.1
  children-begin depth (end at ∷ ts) h = tt
  children-begin depth (fault at ∷ ts) h = tt

  -- a property of a node of a name
  pub value-among : (name : List ℕ) (ts : List Token) → All ts → {bs : List ℕ} → value_in name ts ≡ given bs
      → (at : ℕ) × (t : Text) × P (property at t bs)
  unfolding value_in
  value-among name [] h e = let z : ◌≡◌ {A = ℕ} 0 1 = cc in absurd (omega arith)
  value-among name (property at t v ∷ ts) h {bs} e = go (same_text t (ended name)) e (value-among name ts h.1)
    where
      go : (b : Bool) → pick b (given v) (value_in name ts) ≡ given bs
          → (value_in name ts ≡ given bs → (at : ℕ) × (t : Text) × P (property at t bs))
          → (at : ℕ) × (t : Text) × P (property at t bs)
      go true q f = let s : v ≡ bs = cc in (at, t, subst (λ (l : List ℕ). P (property at t l)) s h.0)
      go false q f = f q
  value-among name (nop at ∷ ts) h e = value-among name ts h.1 e
  value-among name (begin_node at t ∷ ts) h e = let z : ◌≡◌ {A = ℕ} 0 1 = cc in absurd (omega arith)
  value-among name (end_node at ∷ ts) h e = let z : ◌≡◌ {A = ℕ} 0 1 = cc in absurd (omega arith)
  value-among name (end at ∷ ts) h e = let z : ◌≡◌ {A = ℕ} 0 1 = cc in absurd (omega arith)
  value-among name (fault at ∷ ts) h e = let z : ◌≡◌ {A = ℕ} 0 1 = cc in absurd (omega arith)

  pub named-all : (n : List ℕ) (ts : List Token) → Behind ts → (k : ℕ) → All (node_at (nodes_named n ts) k).behind
  named-all n ts h k = inside-at (nodes_named n ts) k (named-inside n ts h)

  -- the children of a node of a name
  pub child-begin : (n : List ℕ) (ts : List Token) → Behind ts → (k i : ℕ) → i < length (children_at 0 (node_at (nodes_named n ts) k).behind)
      → P (begin_node (node_at (children_at 0 (node_at (nodes_named n ts) k).behind) i).at
      (node_at (children_at 0 (node_at (nodes_named n ts) k).behind) i).name)
  child-begin n ts h k i l =
      begin-at (children_at 0 (node_at (nodes_named n ts) k).behind) i l
      (children-begin 0 (node_at (nodes_named n ts) k).behind (named-all n ts h k))

-- a begin token's name is the string behind the token, and a property's value is a part of the tree
pub record IsPart (tree value : List ℕ) : Type 0 where
  pub from : ℕ
  pub many : ℕ
  pub same : value ≡ take many (drop from tree)

module _ (tree : List ℕ) (b : Blocks) where
  abbrev pub Named : Token → Type 0
  Named (begin_node at name) = name ≡ text_at tree (at + 4) b.end
  Named (end_node at) = Unit {0}
  Named (property at name value) = IsPart tree value
  Named (nop at) = Unit {0}
  Named (end at) = Unit {0}
  Named (fault at) = Unit {0}

  by_token : (at : ℕ) → ((next : ℕ) → at < next → at < b.end → All Named (tree_tokens tree b next)) → {x : Step} → Is tree b.end at x
      → All Named (follow tree b.end (name_in tree b) (tree_tokens tree b) x)
  by_token at rest (begins r e) = (refl, behind (text_at tree (at + 4) b.end))
    where
      behind : (t : Text) → All Named (after_begin (tree_tokens tree b) (at + 4) t)
      behind (ended cs) = rest (after_name (at + 4) cs) (omega arith) (omega arith)
      behind unended = tt
  by_token at rest (ends r e) = (tt, rest (at + 4) (omega arith) (omega arith))
  by_token at rest (holds r e) = (
    record { from = at + 12; many = cell_at tree (at + 4); same = refl },
    rest (at + 12 + padded (cell_at tree (at + 4))) (omega arith)
        (omega arith),
  )
  by_token at rest (skips r e) = (tt, rest (at + 4) (omega arith) (omega arith))
  by_token at rest (stops r e) = (tt, tt)
  by_token at rest (cut r e k) = (tt, tt)
  by_token at rest (unknown r n1 n2 n3 n4 n9) = (tt, tt)
  by_token at rest (none r) = (tt, tt)

  by-tokens : (n at : ℕ) → b.end - at < n → All Named (tree_tokens tree b at)
  by-tokens zero at h = absurd (omega arith)
  by-tokens (suc n) at h =
      subst (All Named) (sym (tokens-step tree b.end (name_in tree b) at refl))
      (by_token at (λ next k r. by-tokens n next (omega arith)) (view tree b.end at))

  pub tokens-named : (at : ℕ) → All Named (tree_tokens tree b at)
  tokens-named at = by-tokens (suc (b.end - at)) at (omega arith)

-- behind the root's begin token, a begin token's name is a node name
abbrev pub Good : Token → Type 0
Good (begin_node at name) = is_node_name name ≡ true
Good (end_node at) = Unit {0}
Good (property at name value) = Unit {0}
Good (nop at) = Unit {0}
Good (end at) = Unit {0}
Good (fault at) = Unit {0}

-- the root's begin token is passed
abbrev Entered : State → Type 0
Entered before_root = ⊥
Entered (in_properties level names) = Unit {0}
Entered (in_children level) = Unit {0}
Entered after_root = Unit {0}

not-refused : {number place : ℕ} → refused number place ≡ accepted → ⊥
not-refused h = let z : ◌≡◌ {A = ℕ} 0 1 = cc in omega arith

parent-entered : (level : ℕ) → Entered (parent_of level)
parent-entered level = go (ltb 1 level)
  where
    go : (b : Bool) → Entered (pick b (in_children (level - 1)) after_root)
    go true = tt
    go false = tt

-- a token that the walk passes
passed : {e : ℕ} {q r : State} {t : Token} → Does e q t (go_on r) → Entered q → Good t × Entered r
passed passes h = (tt, h)
passed (enters k) h = absurd h
passed (takes k l) h = (tt, tt)
passed (nests i k l) h = (k, tt)
passed (leaves {level} i) h = (tt, parent-entered level)

begun : {e at : ℕ} {q r : State} {name : Text} → Does e q (begin_node at name) (go_on r) → Entered r
begun (enters k) = tt
begun (nests i k l) = tt

ended-good : {e : ℕ} {q : State} {t : Token} {v : Verdict} → Does e q t (stop v) → v ≡ accepted → Good t
ended-good (accepts k) h = tt
ended-good (refuses n l m) h = absurd (not-refused h)

stopped : {e : ℕ} {q : State} {t : Token} {v : Verdict} → Does e q t (stop v) → v ≡ accepted → is_final t ≡ true
stopped (accepts k) h = refl
stopped (refuses n l m) h = absurd (not-refused h)

module _ (e : ℕ) where
  -- what the first token does, where the walk accepts
  first_does : (q : State) (t : Token) (ts : List Token) → walk e q (t ∷ ts) ≡ accepted → (x : Next) → step e q t ≡ x
      → verdict_after e ts x ≡ accepted
  first_does q t ts h x k = ap (verdict_after e ts) (sym k) ∙ sym (walk-next e q t ts) ∙ h

  good-names : {ts : List Token} → EndsFinal ts → (q : State) → Entered q → walk e q ts ≡ accepted → All Good ts
  good-names (last {t} f) q n h = go (step e q t) (step-does e q t) (first_does q t [] h (step e q t) refl)
    where
      go : (x : Next) → Does e q t x → verdict_after e [] x ≡ accepted → All Good (t ∷ [])
      go (go_on r) d k = absurd (false≢true (sym (on-not-final d) ∙ f))
      go (stop v) d k = (ended-good d k, tt)
  good-names (more {t} {ts} f rest) q n h = go (step e q t) (step-does e q t) (first_does q t ts h (step e q t) refl) (good-names rest)
    where
      go : (x : Next) → Does e q t x → verdict_after e ts x ≡ accepted → ((r : State) → Entered r → walk e r ts ≡ accepted → All Good ts)
          → All Good (t ∷ ts)
      go (go_on r) d k ih = let w = passed d n in (w.0, ih r w.1 k)
      go (stop v) d k ih = absurd (false≢true (sym f ∙ stopped d k))

  -- behind any begin token
  none-behind : (t : Token) → Behind Good (t ∷ [])
  none-behind (begin_node at name) = (tt, tt)
  none-behind (end_node at) = tt
  none-behind (property at name value) = tt
  none-behind (nop at) = tt
  none-behind (end at) = tt
  none-behind (fault at) = tt

  more-behind : (q r : State) (t : Token) (ts : List Token) → Does e q t (go_on r) → (Entered r → All Good ts) → Behind Good ts
      → Behind Good (t ∷ ts)
  more-behind q r (begin_node at name) ts d f h = (f (begun d), h)
  more-behind q r (end_node at) ts d f h = h
  more-behind q r (property at name value) ts d f h = h
  more-behind q r (nop at) ts d f h = h
  more-behind q r (end at) ts d f h = h
  more-behind q r (fault at) ts d f h = h

  good-behind : {ts : List Token} → EndsFinal ts → (q : State) → walk e q ts ≡ accepted → Behind Good ts
  good-behind (last {t} f) q h = none-behind t
  good-behind (more {t} {ts} f rest) q h = go (step e q t) (step-does e q t) (first_does q t ts h (step e q t) refl) (good-behind rest)
    where
      go : (x : Next) → Does e q t x → verdict_after e ts x ≡ accepted → ((r : State) → walk e r ts ≡ accepted → Behind Good ts)
          → Behind Good (t ∷ ts)
      go (go_on r) d k ih = more-behind q r t ts d (λ n. good-names rest r n k) (ih r k)
      go (stop v) d k ih = absurd (false≢true (sym f ∙ stopped d k))

pub tokens-good : (tree : List ℕ) → walk (blocks_of tree).end before_root (all_tokens tree) ≡ accepted → Behind Good (all_tokens tree)
tokens-good tree h =
    let b = blocks_of tree in
    good-behind b.end (tokens-end tree b.end (name_in tree b) b.start) before_root h
