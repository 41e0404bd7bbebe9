-- The properties of a node, read one after the other: what is left decides the whole. Assumes nothing.
use mathlib.Core.Path.{◌≡◌, refl, sym, ap, ◌∙◌}
use mathlib.Core.Bool.{Bool, true, false}
use mathlib.Core.List.{List, [], ◌∷◌, ◌++◌, append_assoc}
use Prim.Native.Nat.{ℕ, zero, suc}
use native.Mathlib.Omega.{arith}
use lib.ListN.{take, drop}
use Rattle.refusal.specs.Refusal.{Placed, placed, refuse_at, fault as fault_at}
use Rattle.refusal.specs.Checks.{first_fault}
use Rattle.strings.specs.Strings.{Text}
use Rattle.names.specs.Names.{both, is_property_name}
use Rattle.tokens.specs.declared.Cursor.{Cursor}
use Rattle.tokens.specs.declared.Step.TheVariants.{BeginNode, EndNode, Property, Nop, End, Fault}
use Rattle.tokens.specs.Steps.{pick, step_at}
use Rattle.tokens.specs.Tokens.{Token, property, nop, tokens}
use Rattle.tokens.proofs.TokenList.{tokens-step, property-moves, nop-moves}
use Rattle.properties.specs.Properties.{among, given_before, name_fault, read_properties}
use Rattle.properties.specs.Marks.{mark_of, is_set, with_mark}
use Rattle.properties.proofs.LookBack.{property_names, Plain, plain-on, names-snoc, names-nop, among-before}
use Rattle.properties.proofs.MarkLaws.{other_name, not-among}

-- a property: refused by the fault of its name, or what follows decides
abbrev or_refused : ℕ → ℕ → Placed ℕ → Placed ℕ
or_refused zero t rest = rest
or_refused (suc n) t rest = refuse_at 0 (fault_at (suc n) t)

property-read : (stop : ℕ) (seen : List Text) (t : ℕ) (n : Text) (value : List ℕ) (ts : List Token)
    → read_properties stop seen (property t n value ∷ ts) ≡ or_refused (name_fault n (among n seen)) t (read_properties stop (seen ++ n ∷ []) ts)
unfolding read_properties first_fault name_fault
property-read stop seen t n value ts = go (is_property_name n) (among n seen) refl refl
  where
    go : (x y : Bool) → is_property_name n ≡ x → among n seen ≡ y
        → read_properties stop seen (property t n value ∷ ts) ≡ or_refused (pick x (pick y 9 0) 7) t (read_properties stop (seen ++ n ∷ []) ts)
    go true true e k = rw (e, k, read_properties, first_fault)
    go true false e k = rw (e, k, read_properties, first_fault)
    go false y e k = rw (e, read_properties, first_fault)

module _ (s : List ℕ) (stop : ℕ) (names : ℕ → Text) (first : ℕ) where
  abbrev T : ℕ → List Token
  T = tokens s stop names

  -- the tokens read so far are properties and NOPs, those from `at` on decide, and a name whose mark is not set is none of those read
  pub record ReadTo (at : ℕ) (marks : List Bool) : Type 0 where
    pub read : List Token
    pub split : T first ≡ read ++ T at
    pub plain : Plain at read
    pub marked : (n : Text) → is_set marks (mark_of n) ≡ false → among n (property_names read) ≡ false
    pub same : read_properties stop (property_names read) (T at) ≡ read_properties stop [] (T first)

  pub read-begins : (marks : List Bool) → ReadTo first marks
  unfolding property_names among
  read-begins marks = record { read = []; split = refl; plain = tt; marked = λ n h. refl; same = refl }

  module _ {at : ℕ} {marks : List Bool} (g : ReadTo at marks) where
    more : (t : Token) (next : ℕ) → T at ≡ t ∷ T next → T first ≡ (g.read ++ t ∷ []) ++ T next
    more t next e = g.split ∙ ap (λ (ts : List Token). g.read ++ ts) e ∙ sym (append_assoc g.read (t ∷ []) (T next))

    pub read-nop : {t : ℕ} {c : Cursor} → step_at s stop at ≡ Nop t c → ReadTo c.at marks
    unfolding read_properties
    read-nop {t} {c} e =
        let m = nop-moves s stop at e in
        let h = tokens-step s stop names at e in
        record {
          read = g.read ++ nop t ∷ [];
          split = more (nop t) c.at h;
          plain = plain-on at c.at g.read (nop t ∷ []) (omega (arith, m.on)) g.plain (omega (arith, m.here, m.on), tt);
          marked = λ n u. rw names-nop (g.marked n u);
          same =
              ap (λ (ns : List Text). read_properties stop ns (T c.at)) (names-nop g.read t)
              ∙ sym (ap (read_properties stop (property_names g.read)) h)
              ∙ g.same;
        }

    -- a property: its fault is that of its name among those read, since a name whose mark is not set is none of them
    module _ {t v l o : ℕ} {c : Cursor} (e : step_at s stop at ≡ Property t v l o c) {number : ℕ}
        (f : number ≡ name_fault (names o) (both (is_set marks (mark_of (names o))) (given_before t (names o) (T first)))) where
      found : number ≡ name_fault (names o) (among (names o) (property_names g.read))
      found = f ∙ ap (name_fault (names o)) (go (is_set marks (mark_of (names o))) refl)
        where
          looked : given_before t (names o) (T first) ≡ among (names o) (property_names g.read)
          looked = among-before s stop names first at (names o) g.read g.split g.plain e

          go : (x : Bool) → is_set marks (mark_of (names o)) ≡ x → both x (given_before t (names o) (T first)) ≡ among (names o) (property_names g.read)
          go true u = looked
          go false u = sym (g.marked (names o) u)

      here : T at ≡ property t (names o) (take l (drop v s)) ∷ T c.at
      here = tokens-step s stop names at e

      decides : read_properties stop [] (T first) ≡ or_refused number t (read_properties stop (property_names g.read ++ names o ∷ []) (T c.at))
      decides =
          sym g.same
          ∙ ap (read_properties stop (property_names g.read)) here
          ∙ property-read stop (property_names g.read) t (names o) (take l (drop v s)) (T c.at)
          ∙ ap (λ (k : ℕ). or_refused k t (read_properties stop (property_names g.read ++ names o ∷ []) (T c.at))) (sym found)

      pub read-refused : (number ≡ 0 → ⊥) → refuse_at 0 (fault_at number t) ≡ read_properties stop [] (T first)
      read-refused z = go number refl ∙ sym decides
        where
          go : (n : ℕ) → number ≡ n → refuse_at 0 (fault_at n t) ≡ or_refused n t (read_properties stop (property_names g.read ++ names o ∷ []) (T c.at))
          go zero w = absurd (z w)
          go (suc n) w = refl

      no-fault : (x y : Bool) → ◌≡◌ {A = ℕ} (pick x (pick y 9 0) 7) 0 → (x ≡ true) × (y ≡ false)
      no-fault true true w = absurd (omega arith)
      no-fault true false w = (refl, refl)
      no-fault false y w = absurd (omega arith)

      pub read-property : {later : List Bool} → number ≡ 0 → later ≡ with_mark (names o) marks → ReadTo c.at later
      unfolding name_fault
      read-property z w =
          let m = property-moves s stop at e in
          let n = names o in
          let x = take l (drop v s) in
          let good = no-fault (is_property_name n) (among n (property_names g.read)) (sym found ∙ z) in
          rw w
          record {
            read = g.read ++ property t n x ∷ [];
            split = more (property t n x) c.at here;
            plain = plain-on at c.at g.read (property t n x ∷ []) (omega (arith, m.on)) g.plain (omega (arith, m.here, m.on), tt);
            marked = λ a u.
                let d = other_name marks n a good.0 u in
                rw names-snoc (not-among a n (property_names g.read) (g.marked a d.0) d.1);
            same =
                ap (λ (ns : List Text). read_properties stop ns (T c.at)) (names-snoc g.read t n x)
                ∙ sym (decides ∙ ap (λ (i : ℕ). or_refused i t (read_properties stop (property_names g.read ++ n ∷ []) (T c.at))) z);
          }

    -- any other token: the properties end there
    ends-here : {t : ℕ} (u : Token) (ts : List Token) → T at ≡ u ∷ ts → placed t ≡ read_properties stop (property_names g.read) (u ∷ ts) → placed t ≡ read_properties stop [] (T first)
    ends-here u ts e k = k ∙ sym (ap (read_properties stop (property_names g.read)) e) ∙ g.same

    pub read-begin : {t : ℕ} {c : Cursor} → step_at s stop at ≡ BeginNode t c → placed t ≡ read_properties stop [] (T first)
    unfolding read_properties
    read-begin e = ends-here _ _ (tokens-step s stop names at e) refl

    pub read-end-node : {t : ℕ} {c : Cursor} → step_at s stop at ≡ EndNode t c → placed t ≡ read_properties stop [] (T first)
    unfolding read_properties
    read-end-node e = ends-here _ _ (tokens-step s stop names at e) refl

    pub read-end : {t : ℕ} → step_at s stop at ≡ End t → placed t ≡ read_properties stop [] (T first)
    unfolding read_properties
    read-end e = ends-here _ _ (tokens-step s stop names at e) refl

    pub read-fault : {t : ℕ} → step_at s stop at ≡ Fault t → placed t ≡ read_properties stop [] (T first)
    unfolding read_properties
    read-fault e = ends-here _ _ (tokens-step s stop names at e) refl
