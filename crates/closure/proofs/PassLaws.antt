-- Laws of a pass that tests positions and takes out those with a dependency that is no member; `held i s` says that the dependencies of
-- position i are all members of s. Assumes nothing.
use Prim.Native.Nat.{ℕ, ◌≤◌, ◌<◌}
use mathlib.Core.Path.{◌≡◌, refl, sym, ap, ap₂, subst, ◌∙◌}
use mathlib.Core.Bool.{Bool, true, false, not, ◌&&◌, ◌||◌}
use mathlib.Core.List.{List}
use mathlib.Core.Logic.{inl, inr, ⊎_elim}
use native.Mathlib.Decide.{ℕ_discrete}
use native.Mathlib.Omega.{arith}
use borrow.Author.Tests.{eq-eqb, ne_eqb, eqb-true}
use lib.Dec.{eqb}
use Rattle.positions.specs.Sets.{room, has, set_of, no_members, with_member, without_member, is_subset, member_count}
use Rattle.positions.proofs.BelowLaws.{no_way, and_left, and-false}
use Rattle.positions.proofs.MemberLaws.{has-set-of, with-member, without-member, subset-at, subset-of, subset-same, subset-on, fewer-members}
use Rattle.record.specs.Record.{most_features}
use Rattle.closure.proofs.Sweeps.{and-true}
use Rattle.closure.specs.declared.Left.{Left}
use Rattle.closure.specs.Parts.{left_of, noted_of, Tested, TestedMember, ClosedSet, TakesOut, Needy, Passes}

-- a pass under way: where none was taken out, the dependencies of the members seen are members; each member seen has none or is noted; and
-- only the first n are noted
pub record Looked (held : ℕ → List ℕ → Bool) (n : ℕ) (old : List ℕ) (Seen : ℕ → Type 0) (members needy : List ℕ) : Type 0 where
  pub out : TakesOut held n old members
  pub done : is_subset old members ≡ true → (i : ℕ) → i < n → Seen i → has old i ≡ true → held i old ≡ true
  pub idle : (i : ℕ) → i < n → Seen i → has members i ≡ true → has needy i ≡ false → (s : List ℕ) → held i s ≡ true
  pub low : (i : ℕ) → i < room → has needy i ≡ true → i < n

or-first : (a b : Bool) → a || b ≡ false → a ≡ false
or-first true b e = e
or-first false b e = refl

or-both : (a b : Bool) → b ≡ true → a || b ≡ true
or-both true b e = refl
or-both false b e = e

-- the two answers of a test
module _ (i : ℕ) (x r : Left) {held : Bool} where
  pub tested-out : held ≡ false → r.members.words ≡ without_member x.members.words i → r.needy.words ≡ x.needy.words → Tested held i x r
  tested-out e p q = record { members = rw e p; needy = rw e q }

  pub tested-held : held ≡ true → r.members.words ≡ x.members.words → r.needy.words ≡ with_member x.needy.words i → Tested held i x r
  tested-held e p q = record { members = rw e p; needy = rw e q }

-- the three answers of a test of a member
module _ (i m : ℕ) (x r : Left) {held : Bool} where
  pub member-none : m ≡ 0 → r ≡ x → TestedMember held i m x r
  member-none z e = record { same = λ w. e; tested = λ w h. absurd (w z) }

  pub member-absent : {b : Bool} → b ≡ has x.members.words i → b ≡ false → r ≡ x → TestedMember held i m x r
  member-absent q z e = record { same = λ w. e; tested = λ w h. no_way (has x.members.words i) h (sym q ∙ z) }

  pub member-tested : {b : Bool} → (m ≡ 0 → ⊥) → b ≡ has x.members.words i → b ≡ true → Tested held i x r → TestedMember held i m x r
  member-tested ne q z t = record { same = λ w. ⊎_elim (λ e. absurd (ne e)) (λ e. no_way (has x.members.words i) (sym q ∙ z) e) w; tested = λ w h. t }

-- a set without i does not have i
pub gone : (s : List ℕ) (i : ℕ) → i < room → has (without_member s i) i ≡ false
gone s i h = without-member s i i h ∙ ap (λ (b : Bool). has s i && not b) (eq-eqb i i refl) ∙ and-false (has s i)

-- what is to do without i
module _ (todo : List ℕ) (i : ℕ) {left : List ℕ} (e : left ≡ without_member todo i) where
  left_is : (j : ℕ) → j < room → has left j ≡ has todo j && not (eqb i j)
  left_is j h = ap (λ (s : List ℕ). has s j) e ∙ without-member todo i j h

  pub todo-within : (j : ℕ) → j < room → has left j ≡ true → has todo j ≡ true
  todo-within j h m = and_left (has todo j) (not (eqb i j)) (sym (left_is j h) ∙ m)

  pub todo-done : (j : ℕ) → j < room → has left j ≡ false → (j ≡ i → ⊥) → has todo j ≡ false
  todo-done j h m ne =
      sym (and-true (has todo j)) ∙ ap (λ (b : Bool). has todo j && not b) (sym (ne_eqb i j (λ q. ne (sym q)))) ∙ sym (left_is j h) ∙ m

  pub todo-less : i < room → has todo i ≡ true → member_count left < member_count todo
  todo-less h m = fewer-members left todo (subset-of left todo todo-within) (go (is_subset todo left) refl)
    where
      go : (b : Bool) → is_subset todo left ≡ b → is_subset todo left ≡ false
      go false z = z
      go true z = no_way (has left i) (subset-at todo left z i h m) (ap (λ (s : List ℕ). has s i) e ∙ gone todo i h)

module _ (held : ℕ → List ℕ → Bool) (n : ℕ) where
  pub takes_none : (s : List ℕ) → TakesOut held n s s
  takes_none s = record { fewer = subset-same s; keeps = λ e c h. h }

  pub takes-on : (a b c : List ℕ) → TakesOut held n a b → TakesOut held n b c → TakesOut held n a c
  takes-on a b c p q = record { fewer = subset-on c b a q.fewer p.fewer; keeps = λ e k h. q.keeps e k (p.keeps e k h) }

  -- none is noted yet: none is seen; or those are that need no test
  module _ {none : List ℕ} (empty : none ≡ set_of no_members) where
    none-low : (i : ℕ) → i < room → has none i ≡ true → i < n
    unfolding no_members
    none-low i h e = no_way (has none i) e (ap (λ (s : List ℕ). has s i) empty ∙ has-set-of no_members i h)

    pub looked-none : (s : List ℕ) → Looked held n s (λ (i : ℕ). i < 0) s none
    looked-none s = record { out = takes_none s; done = λ e i h l m. absurd (omega arith); idle = λ i h l m k t. absurd (omega arith); low = none-low }

    pub looked-again : (members needy : List ℕ) → Needy held n members needy → Looked held n members (λ (i : ℕ). has needy i ≡ false) members none
    looked-again members needy w =
        record { out = takes_none members; done = λ e i h z m. w.idle i h m z members; idle = λ i h z m k s. w.idle i h m z s; low = none-low }

  -- all are seen
  pub looked-all : {old : List ℕ} {Seen : ℕ → Type 0} (r : Left) → Looked held n old Seen r.members.words r.needy.words
      → ((i : ℕ) → i < n → Seen i) → Passes held n old r
  looked-all r l all =
      record {
        out = l.out;
        done = λ e i h m. l.done e i h (all i h) m;
        needy = record { low = l.low; idle = λ i h m k s. l.idle i h (all i h) m k s };
      }

  -- one position more is seen, i; what holds of a set holds of a larger one
  module _ (more : (i : ℕ) (a b : List ℕ) → is_subset a b ≡ true → held i a ≡ true → held i b ≡ true) (few : n ≤ most_features) (i : ℕ) (low : i < n)
      {old : List ℕ} {Seen : ℕ → Type 0} (members needy : List ℕ) (l : Looked held n old Seen members needy) (Next : ℕ → Type 0)
      (seen : (j : ℕ) → j < n → Next j → (j ≡ i → ⊥) → Seen j) where
    abbrev without : List ℕ
    without = without_member members i

    abbrev noted : List ℕ
    noted = with_member needy i

    fewer : is_subset without members ≡ true
    fewer = subset-of without members (λ j h e. and_left (has members j) (not (eqb i j)) (sym (without-member members i j h) ∙ e))

    -- it has no dependencies, or is no member
    look-same : (has members i ≡ true → (s : List ℕ) → held i s ≡ true) → Looked held n old Next members needy
    look-same f =
        record {
          out = l.out;
          done = λ e j h s m. done e j h s m (ℕ_discrete j i);
          idle = λ j h s m k t. idle j h s m k t (ℕ_discrete j i);
          low = l.low;
        }
      where
        done : is_subset old members ≡ true → (j : ℕ) → j < n → Next j → has old j ≡ true → Dec (j ≡ i) → held j old ≡ true
        done e j h s m (yes q) = rw q (f (subset-at old members e i (omega arith) (rw q at m)) old)
        done e j h s m (no q) = l.done e j h (seen j h s q) m

        idle : (j : ℕ) → j < n → Next j → has members j ≡ true → has needy j ≡ false → (t : List ℕ) → Dec (j ≡ i) → held j t ≡ true
        idle j h s m k t (yes q) = rw q (f (rw q at m) t)
        idle j h s m k t (no q) = l.idle j h (seen j h s q) m k t

    -- its dependencies are members: it is noted
    look-held : held i members ≡ true → Looked held n old Next members noted
    look-held f =
        record {
          out = l.out;
          done = λ e j h s m. done e j h s m (ℕ_discrete j i);
          idle = λ j h s m k t. idle j h s m k t (ℕ_discrete j i);
          low = λ j h e. first j h (has needy j) refl (sym (with-member needy i j h) ∙ e);
        }
      where
        done : is_subset old members ≡ true → (j : ℕ) → j < n → Next j → has old j ≡ true → Dec (j ≡ i) → held j old ≡ true
        done e j h s m (yes q) = rw q (more i members old l.out.fewer f)
        done e j h s m (no q) = l.done e j h (seen j h s q) m

        idle : (j : ℕ) → j < n → Next j → has members j ≡ true → has noted j ≡ false → (t : List ℕ) → Dec (j ≡ i) → held j t ≡ true
        idle j h s m k t (yes q) =
            no_way (has noted i) (with-member needy i i (omega arith) ∙ or-both (has needy i) (eqb i i) (eq-eqb i i refl)) (rw q at k)
        idle j h s m k t (no q) =
            l.idle j h (seen j h s q) m (or-first (has needy j) (eqb i j) (sym (with-member needy i j (omega arith)) ∙ k)) t

        first : (j : ℕ) → j < room → (b : Bool) → has needy j ≡ b → b || eqb i j ≡ true → j < n
        first j h true q e = l.low j h q
        first j h false q e = let z = eqb-true i j e in omega arith

    -- one of them is no member: it is taken out
    takes_one : held i members ≡ false → TakesOut held n members without
    takes_one f =
        record {
          fewer = fewer;
          keeps = λ e c h. subset-of e without (λ j k m.
              without-member members i j k ∙ ap₂ ◌&&◌ (subset-at e members h j k m) (ap not (ne_eqb i j (λ q. stays e c h j m q))));
        }
      where
        stays : (e : List ℕ) → ClosedSet held n e → is_subset e members ≡ true → (j : ℕ) → has e j ≡ true → i ≡ j → ⊥
        stays e c h j m q = no_way (held i members) (more i e members h (c i low (ap (has e) q ∙ m))) f

    look-out : held i members ≡ false → Looked held n old Next without needy
    look-out f =
        record {
          out = takes-on old members without l.out (takes_one f);
          done = λ e j h s m. done e j h s m (ℕ_discrete j i);
          idle = λ j h s m k t. idle j h s m k t (ℕ_discrete j i);
          low = l.low;
        }
      where
        done : is_subset old without ≡ true → (j : ℕ) → j < n → Next j → has old j ≡ true → Dec (j ≡ i) → held j old ≡ true
        done e j h s m (yes q) = no_way (has without i) (subset-at old without e i (omega arith) (rw q at m)) (gone members i (omega arith))
        done e j h s m (no q) = l.done (subset-on old without members e fewer) j h (seen j h s q) m

        idle : (j : ℕ) → j < n → Next j → has without j ≡ true → has needy j ≡ false → (t : List ℕ) → Dec (j ≡ i) → held j t ≡ true
        idle j h s m k t (yes q) = no_way (has without i) (rw q at m) (gone members i (omega arith))
        idle j h s m k t (no q) = l.idle j h (seen j h s q) (subset-at without members fewer j (omega arith) m) k t

    look-either : (b : Bool) → b ≡ held i members → Looked held n old Next (left_of b members i) (noted_of b needy i)
    look-either true e = look-held (sym e)
    look-either false e = look-out (sym e)

  -- as the code has it
  module _ (more : (i : ℕ) (a b : List ℕ) → is_subset a b ≡ true → held i a ≡ true → held i b ≡ true) (few : n ≤ most_features) (i : ℕ) (low : i < n)
      {old : List ℕ} {Seen : ℕ → Type 0} (x r : Left) (l : Looked held n old Seen x.members.words x.needy.words) (Next : ℕ → Type 0)
      (seen : (j : ℕ) → j < n → Next j → (j ≡ i → ⊥) → Seen j) where
    pub look-tested : {b : Bool} → b ≡ held i x.members.words → Tested b i x r → Looked held n old Next r.members.words r.needy.words
    look-tested {b} e t =
        subst (λ (m : List ℕ). Looked held n old Next m r.needy.words) (sym t.members)
        (subst (Looked held n old Next (left_of b x.members.words i)) (sym t.needy)
        (look-either more few i low x.members.words x.needy.words l Next seen b e))

    pub look-member : {b : Bool} {m : ℕ} → b ≡ held i x.members.words → (m ≡ 0 → (s : List ℕ) → held i s ≡ true) → TestedMember b i m x r
        → Looked held n old Next r.members.words r.needy.words
    look-member {b} {m} e none t = go (ℕ_discrete m 0) (has x.members.words i) refl
      where
        stay : (r ≡ x) → (has x.members.words i ≡ true → (s : List ℕ) → held i s ≡ true) → Looked held n old Next r.members.words r.needy.words
        stay q f = rw q (look-same more few i low x.members.words x.needy.words l Next seen f)

        go : Dec (m ≡ 0) → (c : Bool) → has x.members.words i ≡ c → Looked held n old Next r.members.words r.needy.words
        go (yes z) c q = stay (t.same (inl z)) (λ k. none z)
        go (no z) false q = stay (t.same (inr q)) (λ k. no_way (has x.members.words i) k q)
        go (no z) true q = look-tested e (t.tested z q)
