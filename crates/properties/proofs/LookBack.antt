-- Laws of looking back over the properties of a node or block. Assumes nothing.
use mathlib.Core.Path.{◌≡◌, refl, sym, ap, ◌∙◌}
use mathlib.Core.Bool.{Bool, true, false}
use mathlib.Core.List.{List, [], ◌∷◌, ◌++◌}
use Prim.Native.Nat.{ℕ, ◌+◌, ◌<◌, ◌≤◌, min}
use native.Mathlib.Omega.{arith}
use native.Mathlib.Decide.{dec_le}
use borrow.Author.Tests.{lt-ltb, le-ltb}
use Rattle.refusal.specs.Refusal.{answer, refuse}
use Rattle.std.specs.Prelude.{Option, Some, None, Ok, Err}
use Rattle.std.specs.Option.{ok_or}
use Rattle.strings.specs.Strings.{Text, text_at}
use Rattle.strings.proofs.Strings.{text-none}
use Rattle.names.specs.Names.{either, same_text, is_property_name, property_name_at}
use Rattle.names.proofs.NameLaws.{property-name-good, property-name-bad}
use Rattle.tokens.specs.declared.Cursor.{Cursor}
use Rattle.tokens.specs.declared.Step.{Step}
use Rattle.tokens.specs.declared.Step.TheVariants.{Property, Nop}
use Rattle.tokens.specs.Steps.{pick, step_at}
use Rattle.tokens.specs.Tokens.{Token, begin_node, end_node, property, nop, end, fault, tokens}
use Rattle.tokens.proofs.TokenList.{tokens-step, follow, view, Is, begins, ends, holds, skips, stops, cut, unknown, none, property-moves, nop-moves}
use Rattle.properties.specs.Properties.{name_at, among, given_before, name_fault}

-- a name whose offset lies past the block does not end
pub name-placed : (bytes : List ℕ) (from limit offset : ℕ) → text_at bytes (min limit (from + offset)) limit ≡ name_at bytes from limit offset
unfolding name_at
name-placed bytes from limit offset = go (dec_le (from + offset) limit)
  where
    go : Dec (from + offset ≤ limit) → text_at bytes (min limit (from + offset)) limit ≡ text_at bytes (from + offset) limit
    go (yes h) = let e : min limit (from + offset) ≡ from + offset = omega arith in rw e
    go (no h) =
        text-none bytes limit (min limit (from + offset)) (omega arith)
        ∙ sym (text-none bytes limit (from + offset) (omega arith))

-- the name at an offset, compared with another
pub named-placed : (bytes : List ℕ) (from limit offset : ℕ) (name : Text) {place : ℕ} {r : Bool} → place ≡ min limit (from + offset)
    → r ≡ same_text (text_at bytes place limit) name → r ≡ same_text (name_at bytes from limit offset) name
named-placed bytes from limit offset name e k = k ∙ ap (λ (t : Text). same_text t name) (rw e (name-placed bytes from limit offset))

module _ (s : List ℕ) (stop : ℕ) (names : ℕ → Text) (t : ℕ) (n : Text) (at : ℕ) where
  -- nothing is looked at from t on
  pub none_before : t ≤ at → given_before t n (tokens s stop names at) ≡ false
  unfolding given_before
  none_before h = rw (tokens-step s stop names at refl) (go (view s stop at))
    where
      go : {x : Step} → Is s stop at x → given_before t n (follow s stop names (tokens s stop names) x) ≡ false
      go (begins r e) = refl
      go (ends r e) = refl
      go (holds r e) = rw (le-ltb at t h)
      go (skips r e) = rw (le-ltb at t h)
      go (stops r e) = refl
      go (cut r e k) = refl
      go (unknown r a b c d e) = refl
      go (none r) = refl

  module _ (h : at < t) where
    pub before-property : {p v l o : ℕ} {c : Cursor} → step_at s stop at ≡ Property p v l o c
        → given_before t n (tokens s stop names at) ≡ either (same_text (names o) n) (given_before t n (tokens s stop names c.at))
    unfolding given_before
    before-property {p} e =
        let q : p ≡ at = (property-moves s stop at e).here in
        let k : p < t = omega arith in
        rw (tokens-step s stop names at e, lt-ltb p t k)

    pub before-nop : {p : ℕ} {c : Cursor} → step_at s stop at ≡ Nop p c
        → given_before t n (tokens s stop names at) ≡ given_before t n (tokens s stop names c.at)
    unfolding given_before
    before-nop {p} e =
        let q : p ≡ at = (nop-moves s stop at e).here in
        let k : p < t = omega arith in
        rw (tokens-step s stop names at e, lt-ltb p t k)

    -- any other token: nothing is looked at from it on
    pub before-none : (x : Step) → step_at s stop at ≡ x → ((p v l o : ℕ) (c : Cursor) → x ≡ Property p v l o c → ⊥) → ((p : ℕ) (c : Cursor) → x ≡ Nop p c → ⊥)
        → given_before t n (tokens s stop names at) ≡ false
    unfolding given_before
    before-none (Property p v l o c) e f g = absurd (f p v l o c refl)
    before-none (Nop p c) e f g = absurd (g p c refl)
    before-none x e f g = rw (tokens-step s stop names at e)

-- a property whose name is compared at its place
module _ (s : List ℕ) (stop : ℕ) (bytes : List ℕ) (from limit t : ℕ) (n : Text) (at : ℕ) (h : at < t) where
  module _ {p v l o : ℕ} {c : Cursor} (e : step_at s stop at ≡ Property p v l o c) {place : ℕ} {r : Bool} (q : place ≡ min limit (from + o)) (k : r ≡ same_text (text_at bytes place limit) n) where
    compared : r ≡ same_text (name_at bytes from limit o) n
    compared = k ∙ ap (λ (x : ℕ). same_text (text_at bytes x limit) n) q ∙ ap (λ (x : Text). same_text x n) (name-placed bytes from limit o)

    pub before_same : r ≡ true → true ≡ given_before t n (tokens s stop (name_at bytes from limit) at)
    before_same w =
        let z : same_text (name_at bytes from limit o) n ≡ true = sym compared ∙ w in
        sym (before-property s stop (name_at bytes from limit) t n at h e ∙ rw z)

    pub before-other : r ≡ false → given_before t n (tokens s stop (name_at bytes from limit) at) ≡ given_before t n (tokens s stop (name_at bytes from limit) c.at)
    before-other w =
        let z : same_text (name_at bytes from limit o) n ≡ false = sym compared ∙ w in
        before-property s stop (name_at bytes from limit) t n at h e ∙ rw z

-- the fault of a name, by what was read of it
module _ (bytes : List ℕ) (from limit offset : ℕ) {place : ℕ} (q : place ≡ min limit (from + offset)) where
  pub here : text_at bytes place limit ≡ name_at bytes from limit offset
  here = ap (λ (x : ℕ). text_at bytes x limit) q ∙ name-placed bytes from limit offset

  pub good-fault : {n : ℕ} (given : Bool) → property_name_at bytes place limit ≡ answer n → name_fault (name_at bytes from limit offset) given ≡ pick given 9 0
  unfolding name_fault
  good-fault {n} given e =
      let g = property-name-good bytes place limit n e in
      let z : is_property_name (name_at bytes from limit offset) ≡ true = ap is_property_name (sym here ∙ g.text) ∙ g.right in
      rw z

  -- a good name, which an earlier property has or has not
  pub name-given : (t : ℕ) (ts : List Token) {n number : ℕ} → property_name_at bytes place limit ≡ answer n → number ≡ pick (given_before t (text_at bytes place limit) ts) 9 0
      → number ≡ name_fault (name_at bytes from limit offset) (given_before t (name_at bytes from limit offset) ts)
  name-given t ts e g = g ∙ ap (λ (x : Text). pick (given_before t x ts) 9 0) here ∙ sym (good-fault (given_before t (name_at bytes from limit offset) ts) e)

  pub bad-fault : (given : Bool) → property_name_at bytes place limit ≡ refuse 0 7 → 7 ≡ name_fault (name_at bytes from limit offset) given
  unfolding name_fault
  bad-fault given e =
      let z : is_property_name (name_at bytes from limit offset) ≡ false = ap is_property_name (sym here) ∙ property-name-bad bytes place limit e in
      rw z

-- the names of properties among tokens
unfoldable pub property_names : List Token → List Text
property_names [] = []
property_names (begin_node at name ∷ ts) = property_names ts
property_names (end_node at ∷ ts) = property_names ts
property_names (property at name value ∷ ts) = name ∷ property_names ts
property_names (nop at ∷ ts) = property_names ts
property_names (end at ∷ ts) = property_names ts
property_names (fault at ∷ ts) = property_names ts

-- properties and NOPs alone, all before a place
abbrev pub Plain : ℕ → List Token → Type 0
Plain at [] = Unit
Plain at (begin_node a n ∷ ts) = ⊥
Plain at (end_node a ∷ ts) = ⊥
Plain at (property a n v ∷ ts) = (a < at) × Plain at ts
Plain at (nop a ∷ ts) = (a < at) × Plain at ts
Plain at (end a ∷ ts) = ⊥
Plain at (fault a ∷ ts) = ⊥

pub plain-on : (at next : ℕ) (ts us : List Token) → at ≤ next → Plain at ts → Plain next us → Plain next (ts ++ us)
plain-on at next [] us h p q = q
plain-on at next (property a n v ∷ ts) us h p q = (omega (arith, p.0), plain-on at next ts us h p.1 q)
plain-on at next (nop a ∷ ts) us h p q = (omega (arith, p.0), plain-on at next ts us h p.1 q)
plain-on at next (begin_node a n ∷ ts) us h p q = absurd p
plain-on at next (end_node a ∷ ts) us h p q = absurd p
plain-on at next (end a ∷ ts) us h p q = absurd p
plain-on at next (fault a ∷ ts) us h p q = absurd p

-- looking back over them, and no further, finds what is among their names
look-back : (at : ℕ) (n : Text) (ts us : List Token) → Plain at ts → given_before at n us ≡ false → given_before at n (ts ++ us) ≡ among n (property_names ts)
unfolding given_before among property_names
look-back at n [] us p h = h
look-back at n (property a k w ∷ ts) us p h = rw (lt-ltb a at p.0) (ap (either (same_text k n)) (look-back at n ts us p.1 h))
look-back at n (nop a ∷ ts) us p h = rw (lt-ltb a at p.0) (look-back at n ts us p.1 h)
look-back at n (begin_node a k ∷ ts) us p h = absurd p
look-back at n (end_node a ∷ ts) us p h = absurd p
look-back at n (end a ∷ ts) us p h = absurd p
look-back at n (fault a ∷ ts) us p h = absurd p

pub names-snoc : (ts : List Token) (at : ℕ) (n : Text) (v : List ℕ) → property_names (ts ++ property at n v ∷ []) ≡ property_names ts ++ n ∷ []
unfolding property_names
names-snoc [] at n v = refl
names-snoc (begin_node a m ∷ ts) at n v = names-snoc ts at n v
names-snoc (end_node a ∷ ts) at n v = names-snoc ts at n v
names-snoc (property a m w ∷ ts) at n v = ap (λ (ms : List Text). m ∷ ms) (names-snoc ts at n v)
names-snoc (nop a ∷ ts) at n v = names-snoc ts at n v
names-snoc (end a ∷ ts) at n v = names-snoc ts at n v
names-snoc (fault a ∷ ts) at n v = names-snoc ts at n v

pub names-nop : (ts : List Token) (at : ℕ) → property_names (ts ++ nop at ∷ []) ≡ property_names ts
unfolding property_names
names-nop [] at = refl
names-nop (begin_node a m ∷ ts) at = names-nop ts at
names-nop (end_node a ∷ ts) at = names-nop ts at
names-nop (property a m w ∷ ts) at = ap (λ (ms : List Text). m ∷ ms) (names-nop ts at)
names-nop (nop a ∷ ts) at = names-nop ts at
names-nop (end a ∷ ts) at = names-nop ts at
names-nop (fault a ∷ ts) at = names-nop ts at

-- so where they were read from a place on, the names before the next place are those looked back at
module _ (s : List ℕ) (stop : ℕ) (names : ℕ → Text) (first at : ℕ) (n : Text) (read : List Token) (split : tokens s stop names first ≡ read ++ tokens s stop names at) (plain : Plain at read) where
  pub among-given : given_before at n (tokens s stop names first) ≡ among n (property_names read)
  among-given = ap (given_before at n) split ∙ look-back at n read (tokens s stop names at) plain (none_before s stop names at n at (omega arith))

  pub among-before : {t v l o : ℕ} {c : Cursor} → step_at s stop at ≡ Property t v l o c → given_before t n (tokens s stop names first) ≡ among n (property_names read)
  among-before e = ap (λ (x : ℕ). given_before x n (tokens s stop names first)) (property-moves s stop at e).here ∙ among-given

-- what `ok_or` made an error of was none, and the error is the one given
pub not-given : {A E : Type 0} (o : Option A) (given e : E) → Err e ≡ ok_or o given → (o ≡ None) × (e ≡ given)
not-given None given e h = (refl, cc)
not-given (Some a) given e h = cc

pub was-given : {A E : Type 0} (o : Option A) (given : E) (a : A) → Ok a ≡ ok_or o given → o ≡ Some a
was-given None given a h = cc
was-given (Some b) given a h = cc
