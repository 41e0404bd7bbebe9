-- The answers of the calls. Assumes nothing.
use mathlib.Core.Path.{◌≡◌, refl, sym, ap, ap₂, ◌∙◌}
use mathlib.Core.Bool.{Bool, true, ◌&&◌}
use mathlib.Core.List.{List}
use Prim.Native.Nat.{ℕ, ◌≤◌, ◌<◌, min}
use native.Mathlib.Decide.{dec_lt}
use native.Mathlib.Omega.{arith}
use borrow.Author.Tests.{lt-ltb, le-ltb}
use lib.Dec.{ltb}
use Rattle.refusal.specs.Refusal.{Outcome, answer, refuse}
use Rattle.positions.specs.Sets.{set_words, room, has, collect, first_positions, is_subset}
use Rattle.positions.proofs.SetLaws.{has-collect, collect-words, collect-is}
use Rattle.positions.proofs.MemberLaws.{subset-at}
use Rattle.positions.proofs.FillLaws.{first_member}
use Rattle.record.specs.declared.Record.{Record}
use Rattle.record.specs.Record.{most_features}
use Rattle.form.specs.WellFormed.{well_formed}
use Rattle.form.proofs.Formed.{formed}
use Rattle.closure.specs.Graph.{dependencies_in, dependency_in}
use Rattle.permitted.specs.declared.Grants.{Grants}
use Rattle.permitted.specs.Permitted.{permitted_at, permitted_set}
use Rattle.permitted.specs.Asked.{asked_checks, Seen, examined}
use Rattle.enabled.proofs.DependencyLaws.{graph-below, record-closed}
use Rattle.closure.proofs.Largest.{enabled-holds-all}
use Rattle.closure.specs.Enabled.{enabled}
use Rattle.enabled.proofs.CountLaws.{seen-counts}
use Rattle.permitted.proofs.AskedLaws.{asked-refused, asked-answered, asked-formed, seen-number, seen_value}
use Rattle.refusal.specs.Checks.{fault_of}
use Rattle.enabled.specs.Answers.{Members, members_of, nobody, enabled_set, enable}
use Rattle.closure.specs.Slots.{closed_part}
use Rattle.enabled.specs.Parts.{CountsOf}

-- a well formed record
pub few : (r : Record) → well_formed r ≡ true → r.count ≤ most_features
few r e = (formed r e).few

-- how a call ends that examines a record, by the number that was found
module _ (r : Record) (level : ℕ) (g : Grants) {o : Outcome Seen} (e : o ≡ examined r level g) where
  pub number-seen : o.number ≡ fault_of (asked_checks r level)
  number-seen = seen-number r level g e

  module _ {x : Outcome Members} (ne : o.number ≡ 0 → ⊥) (q : x ≡ refuse nobody o.number) where
    pub sweep-refused : x ≡ enable r level g
    unfolding enable
    sweep-refused = q ∙ asked-refused r level nobody (members_of (enabled_set r (permitted_set r level g))) number-seen ne

  -- the record is well formed: what was seen of it
  module _ (z : o.number ≡ 0) where
    pub form-seen : well_formed r ≡ true
    form-seen = asked-formed r level number-seen z

    pub counts-seen : CountsOf r o.value.counts
    counts-seen = seen-counts r form-seen (ap (λ (v : Seen). v.counts) (seen_value r level g e z))

    pub permitted-seen : o.value.set ≡ permitted_set r level g
    permitted-seen = ap (λ (v : Seen). v.set) (seen_value r level g e z)

    pub all_seen : {n : ℕ} → n ≡ min r.count most_features → n ≡ r.count
    all_seen q = let h = few r form-seen in omega arith

    pub closed-seen : {n : ℕ} {s : List ℕ} → n ≡ r.count → s ≡ closed_part r.slots o.value.counts n o.value.set
        → s ≡ enabled_set r (permitted_set r level g)
    closed-seen {n} k q =
        q
        ∙ ap (λ (m : ℕ). closed_part r.slots o.value.counts m o.value.set) k
        ∙ record-closed r form-seen counts-seen o.value.set
        ∙ ap (enabled_set r) permitted-seen

    -- where all are permitted, all are enabled
    pub all-seen-enabled : {n : ℕ} {all : List ℕ} → n ≡ r.count → all ≡ first_positions n → is_subset all o.value.set ≡ true
        → o.value.set ≡ enabled_set r (permitted_set r level g)
    unfolding enabled_set permitted_set
    all-seen-enabled {n} {all} k q f =
        permitted-seen
        ∙ collect-is p r.count (enabled (dependencies_in r) (dependency_in r) (has p) r.count) (collect-words set_words m (permitted_at r level g)) (omega (arith, few r form-seen))
        (λ i l. go i l (dec_lt i r.count))
      where
        few-seen : r.count ≤ most_features
        few-seen = few r form-seen

        m : ℕ
        m = min r.count most_features

        p : List ℕ
        p = collect set_words m (permitted_at r level g)

        here : (i : ℕ) → i < r.count → has p i ≡ true
        here i h =
            ap (λ (s : List ℕ). has s i) (sym permitted-seen)
            ∙ subset-at all o.value.set f i (omega (arith, few-seen)) (ap (λ (s : List ℕ). has s i) q ∙ first_member n i (omega (arith, few-seen)) ∙ lt-ltb i n (omega arith))

        go : (i : ℕ) → i < room → Dec (i < r.count) → has p i ≡ ltb i r.count && enabled (dependencies_in r) (dependency_in r) (has p) r.count i
        go i l (yes h) =
            here i h
            ∙ sym (ap₂ ◌&&◌ (lt-ltb i r.count h) (enabled-holds-all (dependencies_in r) (dependency_in r) (has p) r.count (graph-below r form-seen)
            (λ i. true) (λ i h e. here i h) (λ i h e j l. refl) i h refl))
        go i l (no h) =
            has-collect set_words m (permitted_at r level g) (omega (arith, few-seen)) i
            ∙ ap (λ (b : Bool). b && permitted_at r level g i) (le-ltb i m (omega arith))
            ∙ sym (ap (λ (b : Bool). b && enabled (dependencies_in r) (dependency_in r) (has p) r.count i) (le-ltb i r.count (omega arith)))

    module _ {x : Outcome Members} {s : List ℕ} (q : x ≡ answer (members_of s)) where
      pub enabled-answered : s ≡ enabled_set r (permitted_set r level g) → x ≡ enable r level g
      unfolding enable
      enabled-answered f =
          q
          ∙ ap (λ (words : List ℕ). answer (members_of words)) f
          ∙ asked-answered r level nobody (members_of (enabled_set r (permitted_set r level g))) number-seen z

      pub sweep-answered : {n : ℕ} → n ≡ r.count → s ≡ closed_part r.slots o.value.counts n o.value.set → x ≡ enable r level g
      sweep-answered k f = enabled-answered (closed-seen k f)
