-- The properties of a node, to the whole walk: the walk goes on behind them as if a child had come, or stops at the first fault among
-- them. Assumes nothing.
use mathlib.Core.Path.{◌≡◌, refl, sym, ap, subst, ◌∙◌}
use mathlib.Core.Bool.{Bool, true, false}
use mathlib.Core.List.{List, [], ◌∷◌, ◌++◌}
use Prim.Native.Nat.{ℕ, zero, suc, ◌-◌, ◌<◌, ◌≤◌, min}
use native.Mathlib.Omega.{arith}
use lib.ListN.{take, drop}
use Rattle.refusal.specs.Refusal.{Placed, placed, refuse_at, fault as fault_at}
use Rattle.refusal.specs.Checks.{first_fault}
use Rattle.strings.specs.Strings.{Text}
use Rattle.header.specs.declared.Blocks.{Blocks}
use Rattle.names.specs.Names.{is_property_name}
use Rattle.tokens.specs.declared.Step.{Step}
use Rattle.tokens.specs.declared.Step.TheVariants.{BeginNode, EndNode, Property, Nop, End, Fault}
use Rattle.tokens.specs.Steps.{step_at}
use Rattle.tokens.specs.Tokens.{Token, begin_node, end_node, property, nop, end, fault}
use Rattle.tokens.proofs.TokenList.{Moves, tokens-step, property-moves, nop-moves, end-node-moves, begin-moves, end-here, fault-stays}
use Rattle.properties.specs.Properties.{among, read_properties}
use Rattle.walk.specs.Walk.{in_properties, in_children, refused, step, walk, name_in, tree_tokens}
use Rattle.walk.specs.declared.Containers.{Containers}
use Rattle.walk.specs.Parts.{notes}
use Rattle.walk.proofs.Fold.{walk-on, walk-stop, walk-alike}

-- a property behind others with the names `seen`: taken, or refused
data Property-read (stop level : ℕ) (seen : List Text) (t : ℕ) (n : Text) (w : List ℕ) (ts : List Token) : Type 0 where
  taken : read_properties stop seen (property t n w ∷ ts) ≡ read_properties stop (seen ++ n ∷ []) ts
      → walk stop (in_properties level seen) (property t n w ∷ ts) ≡ walk stop (in_properties level (seen ++ n ∷ [])) ts → Property-read stop level seen t n w ts
  stopped : {k : ℕ} → read_properties stop seen (property t n w ∷ ts) ≡ refuse_at 0 (fault_at (suc k) t)
      → walk stop (in_properties level seen) (property t n w ∷ ts) ≡ refused (suc k) t → Property-read stop level seen t n w ts

property-read : (stop level : ℕ) (seen : List Text) (t : ℕ) (n : Text) (w : List ℕ) (ts : List Token) → Property-read stop level seen t n w ts
unfolding read_properties first_fault step
property-read stop level seen t n w ts = go (is_property_name n) (among n seen) refl refl
  where
    go : (x y : Bool) → is_property_name n ≡ x → among n seen ≡ y → Property-read stop level seen t n w ts
    go true true e k = stopped {k = 8} (rw (e, k, read_properties, first_fault)) (walk-stop stop (in_properties level seen) (property t n w) ts (rw (e, k)))
    go true false e k = taken (rw (e, k, read_properties, first_fault)) (walk-on stop (in_properties level seen) (property t n w) ts (rw (e, k)))
    go false y e k = stopped {k = 6} (rw (e, read_properties, first_fault)) (walk-stop stop (in_properties level seen) (property t n w) ts (rw e))

-- a fault among them
module _ (stop level : ℕ) where
  pub walk-properties : (seen : List Text) (ts : List Token) (r : Placed ℕ) → r ≡ read_properties stop seen ts → (r.number ≡ 0 → ⊥)
      → walk stop (in_properties level seen) ts ≡ refused r.number r.place
  unfolding read_properties step
  walk-properties seen [] r e z = absurd (z (ap (λ (x : Placed ℕ). x.number) e))
  walk-properties seen (property t n w ∷ ts) r e z = go (property-read stop level seen t n w ts) (λ q. walk-properties (seen ++ n ∷ []) ts r q z)
    where
      go : Property-read stop level seen t n w ts → (r ≡ read_properties stop (seen ++ n ∷ []) ts → walk stop (in_properties level (seen ++ n ∷ [])) ts ≡ refused r.number r.place)
          → walk stop (in_properties level seen) (property t n w ∷ ts) ≡ refused r.number r.place
      go (taken d q) f = q ∙ f (e ∙ d)
      go (stopped d q) f = q ∙ sym (ap (λ (x : Placed ℕ). refused x.number x.place) (e ∙ d))
  walk-properties seen (nop t ∷ ts) r e z = walk-on stop (in_properties level seen) (nop t) ts refl ∙ walk-properties seen ts r e z
  walk-properties seen (begin_node t n ∷ ts) r e z = absurd (z (ap (λ (x : Placed ℕ). x.number) e))
  walk-properties seen (end_node t ∷ ts) r e z = absurd (z (ap (λ (x : Placed ℕ). x.number) e))
  walk-properties seen (end t ∷ ts) r e z = absurd (z (ap (λ (x : Placed ℕ). x.number) e))
  walk-properties seen (fault t ∷ ts) r e z = absurd (z (ap (λ (x : Placed ℕ). x.number) e))

-- no fault among them: they are read, and what stands behind them decides
module _ (s : List ℕ) (b : Blocks) (level : ℕ) where
  abbrev T : ℕ → List Token
  T = tree_tokens s b

  pub record Opened (seen : List Text) (at behind : ℕ) : Type 0 where
    pub read : List Token
    pub split : T at ≡ read ++ T behind
    pub noted : (c : Containers) → notes c read ≡ c
    pub forward : min at b.end ≤ behind
    pub same : walk b.end (in_children level) (T behind) ≡ walk b.end (in_properties level seen) (T at)

  -- a token that is neither a property nor a NOP
  module _ (seen : List Text) {at t : ℕ} (u : Token) (ts : List Token) (here : T at ≡ u ∷ ts) (there : T t ≡ u ∷ ts) (low : min at b.end ≤ t)
      (alike : step b.end (in_children level) u ≡ step b.end (in_properties level seen) u) where
    no-property : Opened seen at t
    unfolding notes
    no-property = record {
      read = [];
      split = here ∙ sym there;
      noted = λ c. refl;
      forward = low;
      same =
          ap (walk b.end (in_children level)) there
          ∙ walk-alike b.end (in_children level) (in_properties level seen) u ts alike
          ∙ sym (ap (walk b.end (in_properties level seen)) here);
    }

  -- a property or a NOP in front
  module _ {seen more : List Text} {at next behind : ℕ} (u : Token) (here : T at ≡ u ∷ T next) (on : at ≤ next) (quiet : (c : Containers) (ts : List Token) → notes c (u ∷ ts) ≡ notes c ts)
      (goes : walk b.end (in_properties level seen) (u ∷ T next) ≡ walk b.end (in_properties level more) (T next)) (o : Opened more next behind) where
    one_more : Opened seen at behind
    one_more = record {
      read = u ∷ o.read;
      split = here ∙ ap (λ (ts : List Token). u ∷ ts) o.split;
      noted = λ c. quiet c o.read ∙ o.noted c;
      forward = omega (arith, o.forward);
      same = o.same ∙ sym goes ∙ sym (ap (walk b.end (in_properties level seen)) here);
    }

  -- by the token at the place; the bound on how many there are falls
  module _ (seen : List Text) (at : ℕ) (r : Placed ℕ) (e : r ≡ read_properties b.end seen (T at)) (z : r.number ≡ 0)
      (later : (more : List Text) (next : ℕ) → b.end - next < b.end - at → r ≡ read_properties b.end more (T next) → Opened more next r.value) where
    read_at : {u : Token} {ts : List Token} → T at ≡ u ∷ ts → r ≡ read_properties b.end seen (u ∷ ts)
    read_at h = e ∙ ap (read_properties b.end seen) h

    here-is : {t : ℕ} → placed t ≡ r → Opened seen at t → Opened seen at r.value
    here-is h o = subst (λ (x : Placed ℕ). Opened seen at x.value) h o

    opens_by : (x : Step) → step_at s b.end at ≡ x → Opened seen at r.value
    unfolding read_properties notes step
    opens_by (Property t v l o c) h =
        let m = property-moves s b.end at h in
        go (property-read b.end level seen t (name_in s b o) (take l (drop v s)) (T c.at)) m
      where
        u : Token
        u = property t (name_in s b o) (take l (drop v s))

        go : Property-read b.end level seen t (name_in s b o) (take l (drop v s)) (T c.at) → Moves b.end at t c.at → Opened seen at r.value
        go (taken d q) m =
            one_more u (tokens-step s b.end (name_in s b) at h) (omega (arith, m.on)) (λ c ts. refl) q
            (later (seen ++ name_in s b o ∷ []) c.at (omega (arith, m.on, m.within)) (read_at (tokens-step s b.end (name_in s b) at h) ∙ d))
        go (stopped {k} d q) m =
            let w : suc k ≡ 0 = sym (ap (λ (x : Placed ℕ). x.number) (read_at (tokens-step s b.end (name_in s b) at h) ∙ d)) ∙ z in absurd (omega arith)
    opens_by (Nop t c) h =
        let m = nop-moves s b.end at h in
        let k = tokens-step s b.end (name_in s b) at h in
        one_more (nop t) k (omega (arith, m.on)) (λ c ts. refl) (walk-on b.end (in_properties level seen) (nop t) (T c.at) refl)
        (later seen c.at (omega (arith, m.on, m.within)) (read_at k))
    opens_by (BeginNode t c) h =
        let m = begin-moves s b.end at h in
        let k = tokens-step s b.end (name_in s b) at h in
        here-is (sym (read_at k)) (no-property seen _ _ k (ap T m.here ∙ k) (omega (arith, m.here)) refl)
    opens_by (EndNode t c) h =
        let m = end-node-moves s b.end at h in
        let k = tokens-step s b.end (name_in s b) at h in
        here-is (sym (read_at k)) (no-property seen _ _ k (ap T m.here ∙ k) (omega (arith, m.here)) refl)
    opens_by (End t) h =
        let m = end-here s b.end at h in
        let k = tokens-step s b.end (name_in s b) at h in
        here-is (sym (read_at k)) (no-property seen _ _ k (ap T m ∙ k) (omega arith) refl)
    opens_by (Fault t) h =
        let m = fault-stays s b.end at h in
        let k = tokens-step s b.end (name_in s b) at h in
        here-is (sym (read_at k)) (no-property seen _ _ k (tokens-step s b.end (name_in s b) t m.1) m.0 refl)

  opens : (n : ℕ) (seen : List Text) (at : ℕ) → b.end - at < n → (r : Placed ℕ) → r ≡ read_properties b.end seen (T at) → r.number ≡ 0 → Opened seen at r.value
  opens zero seen at h r e z = absurd (omega arith)
  opens (suc n) seen at h r e z = opens_by seen at r e z (λ more next l q. opens n more next (omega arith) r q z) (step_at s b.end at) refl

  pub opened : (at : ℕ) (r : Placed ℕ) → r ≡ read_properties b.end [] (T at) → r.number ≡ 0 → Opened [] at r.value
  opened at = opens (suc (b.end - at)) [] at (omega arith)
