-- What a token does in the walk, case by case: it refuses, or it does what one line of the walk's table says. Assumes nothing.
use mathlib.Core.Path.{◌≡◌, refl}
use mathlib.Core.Bool.{Bool, true, false}
use mathlib.Core.List.{List, [], ◌∷◌, ◌++◌}
use Prim.Native.Nat.{ℕ, ◌+◌, ◌<◌, ◌≤◌}
use native.Mathlib.Omega.{arith}
use borrow.Author.Tests.{ltb-true, eqb-true, lt-ltb}
use lib.Dec.{ltb, eqb}
use Rattle.strings.specs.Strings.{Text}
use Rattle.names.specs.Names.{is_node_name, is_property_name, is_root_name}
use Rattle.tokens.specs.Steps.{pick}
use Rattle.tokens.specs.Tokens.{Token, begin_node, end_node, property, nop, end, fault}
use Rattle.properties.specs.Properties.{among}
use Rattle.walk.specs.Walk.{State, before_root, in_properties, in_children, after_root, Verdict, accepted, Next, go_on, stop, refuse_here, parent_of, enter_child, take_property, most_levels, step, walk}
use Rattle.walk.specs.Faults.{offset_of}
use Rattle.walk.proofs.Fold.{walk-on}

-- the walk is in a node of a level, before its child nodes or after one
pub data InNode (level : ℕ) : State → Type 0 where
  early : {names : List Text} → InNode level (in_properties level names)
  late : InNode level (in_children level)

-- what a token does in a state, in a block that ends at e
pub data Does (e : ℕ) : State → Token → Next → Type 0 where
  skips : {q : State} {at : ℕ} → Does e q (nop at) (go_on q)
  enters : {at : ℕ} {name : Text} → is_root_name name ≡ true → Does e before_root (begin_node at name) (go_on (in_properties 1 []))
  takes : {level at : ℕ} {names : List Text} {name : Text} {value : List ℕ} → is_property_name name ≡ true → among name names ≡ false
      → Does e (in_properties level names) (property at name value) (go_on (in_properties level (names ++ name ∷ [])))
  nests : {level at : ℕ} {name : Text} {q : State} → InNode level q → is_node_name name ≡ true → level < most_levels
      → Does e q (begin_node at name) (go_on (in_properties (level + 1) []))
  leaves : {level at : ℕ} {q : State} → InNode level q → Does e q (end_node at) (go_on (parent_of level))
  accepts : {at : ℕ} → at + 4 ≡ e → Does e after_root (end at) (stop accepted)
  refuses : {q : State} {t : Token} (number : ℕ) → 6 ≤ number → number ≤ 9 → Does e q t (refuse_here number (offset_of t))

misplaced : {e : ℕ} {q : State} (t : Token) → Does e q t (refuse_here 6 (offset_of t))
misplaced t = refuses 6 (omega arith) (omega arith)

module _ (e at : ℕ) where
  root_does : (name : Text) (b : Bool) → is_root_name name ≡ b → Does e before_root (begin_node at name) (pick b (go_on (in_properties 1 [])) (refuse_here 7 at))
  root_does name true h = enters h
  root_does name false h = refuses 7 (omega arith) (omega arith)

  child-does : {level : ℕ} {q : State} → InNode level q → (name : Text) → Does e q (begin_node at name) (enter_child level at name)
  child-does {level} {q} i name = go (is_node_name name) refl (ltb level most_levels) refl
    where
      go : (b : Bool) → is_node_name name ≡ b → (c : Bool) → ltb level most_levels ≡ c
          → Does e q (begin_node at name) (pick b (pick c (go_on (in_properties (level + 1) [])) (refuse_here 8 at)) (refuse_here 7 at))
      go true h true k = nests i h (ltb-true level most_levels k)
      go true h false k = refuses 8 (omega arith) (omega arith)
      go false h c k = refuses 7 (omega arith) (omega arith)

  property-does : (level : ℕ) (names : List Text) (name : Text) (value : List ℕ) → Does e (in_properties level names) (property at name value) (take_property level names at name)
  property-does level names name value = go (is_property_name name) refl (among name names) refl
    where
      go : (b : Bool) → is_property_name name ≡ b → (c : Bool) → among name names ≡ c
          → Does e (in_properties level names) (property at name value) (pick b (pick c (refuse_here 9 at) (go_on (in_properties level (names ++ name ∷ [])))) (refuse_here 7 at))
      go true h true k = refuses 9 (omega arith) (omega arith)
      go true h false k = takes h k
      go false h c k = refuses 7 (omega arith) (omega arith)

  end-does : (b : Bool) → eqb (at + 4) e ≡ b → Does e after_root (end at) (pick b (stop accepted) (refuse_here 6 at))
  end-does true h = accepts (eqb-true (at + 4) e h)
  end-does false h = misplaced (end at)

pub step-does : (e : ℕ) (q : State) (t : Token) → Does e q t (step e q t)
unfolding step
step-does e q (nop at) = skips
step-does e before_root (begin_node at name) = root_does e at name (is_root_name name) refl
step-does e (in_properties level names) (begin_node at name) = child-does e at early name
step-does e (in_children level) (begin_node at name) = child-does e at late name
step-does e after_root (begin_node at name) = misplaced (begin_node at name)
step-does e before_root (end_node at) = misplaced (end_node at)
step-does e (in_properties level names) (end_node at) = leaves early
step-does e (in_children level) (end_node at) = leaves late
step-does e after_root (end_node at) = misplaced (end_node at)
step-does e before_root (property at name value) = misplaced (property at name value)
step-does e (in_properties level names) (property at name value) = property-does e at level names name value
step-does e (in_children level) (property at name value) = misplaced (property at name value)
step-does e after_root (property at name value) = misplaced (property at name value)
step-does e before_root (end at) = misplaced (end at)
step-does e (in_properties level names) (end at) = misplaced (end at)
step-does e (in_children level) (end at) = misplaced (end at)
step-does e after_root (end at) = end-does e at (eqb (at + 4) e) refl
step-does e before_root (fault at) = misplaced (fault at)
step-does e (in_properties level names) (fault at) = misplaced (fault at)
step-does e (in_children level) (fault at) = misplaced (fault at)
step-does e after_root (fault at) = misplaced (fault at)

-- where the walk goes on
does-step : {e : ℕ} {q r : State} {t : Token} → Does e q t (go_on r) → step e q t ≡ go_on r
unfolding step
does-step skips = refl
does-step (enters h) = rw h
does-step (takes h k) = rw (h, k)
does-step (nests {level} early h l) = rw (h, lt-ltb level most_levels l)
does-step (nests {level} late h l) = rw (h, lt-ltb level most_levels l)
does-step (leaves early) = refl
does-step (leaves late) = refl

pub walk-does : {e : ℕ} {q r : State} {t : Token} (ts : List Token) → Does e q t (go_on r) → walk e q (t ∷ ts) ≡ walk e r ts
walk-does {e} {q} {r} {t} ts d = walk-on e q t ts (does-step d)

-- the verdict, by what the first token does
abbrev pub verdict_after : ℕ → List Token → Next → Verdict
verdict_after e ts (go_on r) = walk e r ts
verdict_after e ts (stop v) = v

pub walk-next : (e : ℕ) (q : State) (t : Token) (ts : List Token) → walk e q (t ∷ ts) ≡ verdict_after e ts (step e q t)
unfolding walk
walk-next e q t ts = go (step e q t)
  where
    go : (x : Next) → (elim x as (λ _. Verdict) [ go_on r ↦ walk e r ts | stop v ↦ v ]) ≡ verdict_after e ts x
    go (go_on r) = refl
    go (stop v) = refl
