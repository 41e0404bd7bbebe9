-- What an accepted walk says of the tokens alone. Assumes nothing.
use mathlib.Core.Path.{◌≡◌, refl}
use mathlib.Core.Bool.{Bool, true, false}
use mathlib.Core.List.{List, [], ◌∷◌}
use Prim.Native.Nat.{ℕ, ◌+◌}
use native.Mathlib.Omega.{arith}
use borrow.Author.Tests.{eqb-true}
use lib.Dec.{eqb, ltb}
use Rattle.strings.specs.Strings.{Text, ended, unended}
use Rattle.names.specs.Names.{is_node_name, is_property_name, is_root_name}
use Rattle.tokens.specs.Steps.{pick}
use Rattle.tokens.specs.Tokens.{Token, begin_node, end_node, property, nop, end, fault}
use Rattle.encoding.specs.StringsBlock.{Ended}
use Rattle.properties.specs.Properties.{among}
use Rattle.walk.specs.Walk.{State, before_root, in_properties, in_children, after_root, Verdict, accepted, refused, Next, go_on, stop, most_levels, step, walk}

-- tokens up to the end token, which is the last cell of a block that ends at e: no fault, and each name ends
abbrev pub Complete : ℕ → List Token → Type 0
Complete e [] = ⊥
Complete e (begin_node at name ∷ ts) = Ended name × Complete e ts
Complete e (end_node at ∷ ts) = Complete e ts
Complete e (property at name value ∷ ts) = Ended name × Complete e ts
Complete e (nop at ∷ ts) = Complete e ts
Complete e (end at ∷ ts) = at + 4 ≡ e
Complete e (fault at ∷ ts) = ⊥

not-refused : {number place : ℕ} → refused number place ≡ accepted → ⊥
not-refused h = let z : ◌≡◌ {A = ℕ} 0 1 = cc in omega arith

-- what a token does: it does not accept, and where the walk goes on, P holds
abbrev GoesOn : Type 0 → Next → Type 0
GoesOn P (go_on q) = P
GoesOn P (stop accepted) = ⊥
GoesOn P (stop (refused number place)) = Unit {0}

either_way : (P : Type 0) (test : Bool) (a b : Next) → GoesOn P a → GoesOn P b → GoesOn P (pick test a b)
either_way P true a b h k = h
either_way P false a b h k = k

module _ (e at : ℕ) where
  begin-goes-on : (q : State) (name : Text) → GoesOn (Ended name) (step e q (begin_node at name))
  unfolding step is_root_name is_node_name
  begin-goes-on before_root (ended cs) = either_way (Unit {0}) (is_root_name (ended cs)) _ _ tt tt
  begin-goes-on before_root unended = tt
  begin-goes-on (in_properties level names) (ended cs) =
      either_way (Unit {0}) (is_node_name (ended cs)) _ _ (either_way (Unit {0}) (ltb level most_levels) _ _ tt tt) tt
  begin-goes-on (in_properties level names) unended = tt
  begin-goes-on (in_children level) (ended cs) =
      either_way (Unit {0}) (is_node_name (ended cs)) _ _ (either_way (Unit {0}) (ltb level most_levels) _ _ tt tt) tt
  begin-goes-on (in_children level) unended = tt
  begin-goes-on after_root name = tt

  property-goes-on : (q : State) (name : Text) (value : List ℕ) → GoesOn (Ended name) (step e q (property at name value))
  unfolding step is_property_name
  property-goes-on before_root name value = tt
  property-goes-on (in_properties level names) (ended cs) value =
      either_way (Unit {0}) (is_property_name (ended cs)) _ _ (either_way (Unit {0}) (among (ended cs) names) _ _ tt tt) tt
  property-goes-on (in_properties level names) unended value = tt
  property-goes-on (in_children level) name value = tt
  property-goes-on after_root name value = tt

  end-node-goes-on : (q : State) → GoesOn (Unit {0}) (step e q (end_node at))
  unfolding step
  end-node-goes-on before_root = tt
  end-node-goes-on (in_properties level names) = tt
  end-node-goes-on (in_children level) = tt
  end-node-goes-on after_root = tt

  nop-goes-on : (q : State) → GoesOn (Unit {0}) (step e q (nop at))
  unfolding step
  nop-goes-on q = tt

  fault-goes-on : (q : State) → GoesOn ⊥ (step e q (fault at))
  unfolding step
  fault-goes-on before_root = tt
  fault-goes-on (in_properties level names) = tt
  fault-goes-on (in_children level) = tt
  fault-goes-on after_root = tt

-- a walk that accepts, at a token
module _ (e : ℕ) (q : State) (t : Token) (ts : List Token) (h : walk e q (t ∷ ts) ≡ accepted) where
  passed : (P : Type 0) → GoesOn P (step e q t) → P × ((r : State) × (walk e r ts ≡ accepted))
  unfolding walk
  passed P g = go (step e q t) g h
    where
      go : (x : Next) → GoesOn P x → (elim x as (λ _. Verdict) [ go_on r ↦ walk e r ts | stop v ↦ v ]) ≡ accepted → P × ((r : State) × (walk e r ts ≡ accepted))
      go (go_on r) p k = (p, (r, k))
      go (stop accepted) p k = absurd p
      go (stop (refused number place)) p k = absurd (not-refused k)

ends_there : (e at : ℕ) (q : State) (ts : List Token) → walk e q (end at ∷ ts) ≡ accepted → at + 4 ≡ e
unfolding walk step
ends_there e at before_root ts h = absurd (not-refused h)
ends_there e at (in_properties level names) ts h = absurd (not-refused h)
ends_there e at (in_children level) ts h = absurd (not-refused h)
ends_there e at after_root ts h = go (eqb (at + 4) e) refl h
  where
    go : (t : Bool) → eqb (at + 4) e ≡ t → (elim (pick t (stop accepted) (stop (refused 6 at))) as (λ _. Verdict) [ go_on r ↦ walk e r ts | stop v ↦ v ]) ≡ accepted → at + 4 ≡ e
    go true k l = eqb-true (at + 4) e k
    go false k l = absurd (not-refused l)

pub accepted-complete : (e : ℕ) (q : State) (ts : List Token) → walk e q ts ≡ accepted → Complete e ts
unfolding walk
accepted-complete e q [] h = not-refused h
accepted-complete e q (begin_node at name ∷ ts) h =
    let g = passed e q (begin_node at name) ts h (Ended name) (begin-goes-on e at q name) in
    (g.0, accepted-complete e g.1.0 ts g.1.1)
accepted-complete e q (end_node at ∷ ts) h =
    let g = passed e q (end_node at) ts h (Unit {0}) (end-node-goes-on e at q) in accepted-complete e g.1.0 ts g.1.1
accepted-complete e q (property at name value ∷ ts) h =
    let g = passed e q (property at name value) ts h (Ended name) (property-goes-on e at q name value) in
    (g.0, accepted-complete e g.1.0 ts g.1.1)
accepted-complete e q (nop at ∷ ts) h =
    let g = passed e q (nop at) ts h (Unit {0}) (nop-goes-on e at q) in accepted-complete e g.1.0 ts g.1.1
accepted-complete e q (end at ∷ ts) h = ends_there e at q ts h
accepted-complete e q (fault at ∷ ts) h = (passed e q (fault at) ts h ⊥ (fault-goes-on e at q)).0
