-- Laws of the passes over slots: what is left when a pass takes nothing out is the largest closed part. Assumes nothing.
use Prim.Native.Nat.{ℕ, ◌≤◌, ◌<◌}
use mathlib.Core.Path.{◌≡◌, refl, sym, ap, ap₂, subst, ◌∙◌}
use mathlib.Core.Bool.{Bool, true, false, ◌&&◌}
use mathlib.Core.List.{List}
use native.Mathlib.Decide.{dec_lt}
use native.Mathlib.Omega.{arith}
use borrow.Author.Tests.{lt-ltb, le-ltb, ltb-true}
use lib.Dec.{ltb}
use Rattle.positions.specs.Sets.{set_words, room, has, collect, common, first_positions, is_subset, member_count}
use Rattle.positions.proofs.BelowLaws.{no_way, and_left, and_right, every_of}
use Rattle.positions.proofs.SetLaws.{WordList, has-collect, collect-is}
use Rattle.positions.proofs.MemberLaws.{common-member, subset-at, subset-of, fewer-members}
use Rattle.positions.proofs.FillLaws.{first_member}
use Rattle.record.specs.Record.{most_features}
use Rattle.tables.specs.Slots.{slot_number, slot_of}
use Rattle.closure.specs.Graph.{Below}
use Rattle.closure.specs.Enabled.{enabled}
use Rattle.closure.specs.Slots.{slots_below, permitted_among, closed_among}
use Rattle.closure.specs.declared.Left.{Left}
use Rattle.closure.specs.Parts.{slots_in, ClosedSet, TakesOut, Passes}
use Rattle.closure.proofs.Largest.{enabled-permitted, enabled-closed, enabled-holds-all}
use Rattle.closure.proofs.Sweeps.{sweeps-agree}
use Rattle.closure.proofs.SlotLaws.{slots_at, slots-of, slots-wider}
use Rattle.closure.proofs.BoundLaws.{number_within, number-within, slot-within, graph-within}
use Rattle.closure.proofs.PassLaws.{takes-on}

module _ (slots counts : List ℕ) (n : ℕ) (few : n ≤ most_features) where
  abbrev within : ℕ → Bool
  within = slots_below slots counts n

  -- the dependencies of the positions that have none outside
  abbrev number : ℕ → ℕ
  number = number_within slots counts n

  graph : Below n number (slot_of slots)
  graph = graph-within slots counts n

  -- s is a part of the first n of the positions of p that keeps every closed part
  module _ (p s : List ℕ) (g : WordList set_words s) (t : TakesOut (slots_in slots counts) n (common p (first_positions n)) s) where
    abbrev permitted : ℕ → Bool
    permitted = permitted_among slots counts n p

    abbrev E : ℕ → Bool
    E = enabled number (slot_of slots) permitted n

    member : (i : ℕ) → i < room → has s i ≡ true → (has p i ≡ true) × (i < n)
    member i h e =
        let both = sym (common-member p (first_positions n) i h) ∙ subset-at s (common p (first_positions n)) t.fewer i h e in
        (and_left (has p i) (has (first_positions n) i) both, ltb-true i n (sym (first_member n i h) ∙ and_right (has p i) (has (first_positions n) i) both))

    -- the members of s are enabled, where it is closed
    module _ (c : ClosedSet (slots_in slots counts) n s) where
      inside-below : (i : ℕ) → i < n → has s i ≡ true → within i ≡ true
      unfolding slots_below
      inside-below i h e = every_of (slot_number counts i) (λ j. ltb (slot_of slots i j) n) (λ j l.
          let d = slots_at slots counts i s (c i h e) j l in
          lt-ltb (slot_of slots i j) n (member (slot_of slots i j) d.0 d.1).1)

      inside : (i : ℕ) → i < n → has s i ≡ true → E i ≡ true
      inside =
          enabled-holds-all number (slot_of slots) permitted n graph (has s)
          (λ i h e. ap₂ ◌&&◌ (member i (omega arith) e).0 (inside-below i h e))
          (λ i h e j l. (slots_at slots counts i s (c i h e) j (rw (number-within slots counts n i (inside-below i h e)) at l)).1)

    -- the enabled positions as words: a closed part
    abbrev words : List ℕ
    words = collect set_words n E

    in_words : (i : ℕ) → has words i ≡ ltb i n && E i
    in_words i = has-collect set_words n E (omega arith) i

    enabled-at : (i : ℕ) → has words i ≡ true → (i < n) × (E i ≡ true)
    enabled-at i e = (ltb-true i n (and_left (ltb i n) (E i) (sym (in_words i) ∙ e)), and_right (ltb i n) (E i) (sym (in_words i) ∙ e))

    allowed : (i : ℕ) → has words i ≡ true → permitted i ≡ true
    allowed i e = let w = enabled-at i e in enabled-permitted number (slot_of slots) permitted n graph i w.0 w.1

    closed : ClosedSet (slots_in slots counts) n words
    closed i h e =
        let w = and_right (has p i) (within i) (allowed i e) in
        slots-of slots counts i words (λ j l.
        let b = slot-within slots counts n i w j l in
        let k = enabled-closed number (slot_of slots) permitted n graph i h (enabled-at i e).1 j (rw (number-within slots counts n i w) l) in
        (omega arith, in_words (slot_of slots i j) ∙ ap₂ ◌&&◌ (lt-ltb (slot_of slots i j) n b) k))

    start : is_subset words (common p (first_positions n)) ≡ true
    start = subset-of words (common p (first_positions n)) (λ i l e.
        common-member p (first_positions n) i l
        ∙ ap₂ ◌&&◌ (and_left (has p i) (within i) (allowed i e)) (first_member n i l ∙ lt-ltb i n (enabled-at i e).0))

    abbrev D : ℕ → Bool
    D = enabled (slot_number counts) (slot_of slots) permitted n

    -- where s is closed it is the largest closed part
    swept : ClosedSet (slots_in slots counts) n s → s ≡ closed_among slots counts n p
    unfolding closed_among
    swept c = collect-is s n _ g (omega arith) (λ i l. go i l (dec_lt i n) (has s i) refl)
      where
        agree : (i : ℕ) → i < n → E i ≡ D i
        agree =
            sweeps-agree n number (slot_number counts) (slot_of slots) permitted permitted graph (λ i h. refl)
            (λ i h e. number-within slots counts n i (and_right (has p i) (within i) e)) n

        go : (i : ℕ) → i < room → Dec (i < n) → (b : Bool) → has s i ≡ b → has s i ≡ ltb i n && D i
        go i l (yes h) true e = e ∙ sym (ap₂ ◌&&◌ (lt-ltb i n h) (sym (agree i h) ∙ inside c i h e))
        go i l (yes h) false e = e ∙ sym (rw (lt-ltb i n h) (sym (agree i h) ∙ out (E i) refl))
          where
            out : (b : Bool) → E i ≡ b → E i ≡ false
            out false q = q
            out true q = no_way (has s i) (subset-at words s (t.keeps words closed start) i l (in_words i ∙ ap₂ ◌&&◌ (lt-ltb i n h) q)) e
        go i l (no h) true e = absurd (h (member i l e).1)
        go i l (no h) false e = e ∙ sym (rw (le-ltb i n (omega arith)))

  -- a pass that takes nothing out is the last
  pub pass-last : (p : List ℕ) {start all s : List ℕ} (r : Left) → start ≡ common p all → all ≡ first_positions n → TakesOut (slots_in slots counts) n start s
      → Passes (slots_in slots counts) n s r → {last : Bool} → last ≡ is_subset s r.members.words → last ≡ true → WordList set_words r.members.words
      → {m : ℕ} → n ≡ m → r.members.words ≡ closed_among slots counts m p
  pass-last p {s = s} r e q o pass z y g k =
      let last = sym z ∙ y in
      let t = r.members.words in
      swept p t g (subst (λ (x : List ℕ). TakesOut (slots_in slots counts) n x t) (e ∙ ap (common p) q) (takes-on (slots_in slots counts) n _ s t o pass.out))
      (λ i h m. slots-wider slots counts i s t last (pass.done last i h (subset-at t s pass.out.fewer i (omega arith) m)))
      ∙ ap (λ (m : ℕ). closed_among slots counts m p) k

-- a pass that takes one out leaves fewer
pub pass-less : (held : ℕ → List ℕ → Bool) (n : ℕ) (s : List ℕ) (r : Left) → Passes held n s r → {last : Bool} → last ≡ is_subset s r.members.words
    → last ≡ false → member_count r.members.words < member_count s
pass-less held n s r p e z = fewer-members r.members.words s p.out.fewer (sym e ∙ z)
