-- Laws of what is asked of a record and a level, one for each return of the code. Assumes nothing.
use Prim.Native.Nat.{ℕ, ◌+◌, ◌≤◌, ◌<◌, min}
use mathlib.Core.Path.{◌≡◌, refl, sym, ap, ap₂, ◌∙◌}
use mathlib.Core.Bool.{Bool, true, false, cond}
use mathlib.Core.List.{List}
use native.Mathlib.Decide.{ℕ_discrete}
use native.Mathlib.Omega.{arith}
use lib.Arith.{lt→nleb}
use lib.Dec.{le→leb}
use lib.ListN.{replicate, set as store}
use Rattle.cells.specs.Rows.{each, padded}
use Rattle.cells.proofs.Rows.{padded-each}
use Rattle.positions.specs.Below.{every}
use Rattle.positions.specs.Sets.{set_words, collect, with_member, set_of, no_members}
use Rattle.record.specs.Record.{most_features, feature_at}
use Rattle.record.specs.Cells.{dependency_count}
use Rattle.form.specs.Slots.{fits_at}
use Rattle.form.specs.WellFormed.{feature_fits, well_formed}
use Rattle.form.proofs.FormedLaws.{formed-many, formed-not, formed-next, formed-all}
use Rattle.record.specs.declared.Record.{Record}
use Rattle.refusal.specs.Refusal.{Outcome, answer, refuse}
use Rattle.refusal.specs.Checks.{first_fault, fault_of}
use Rattle.refusal.proofs.Checks.{Numbered, stops-with, passes, fault-refuses, fault-answers}
use Rattle.permitted.specs.Permitted.{hypervisor, is_permitted, permitted_at, permitted_set}
use Rattle.permitted.specs.Asked.{asked_checks, dependency_counts, Seen, nothing_seen, examined, permitted}
use Rattle.permitted.proofs.PermittedLaws.{none_yet, next, set-is-permitted}
use Rattle.permitted.specs.declared.Grants.{Grants}

-- the number of each way through the tests
module _ (r : Record) (level : ℕ) where
  pub not-formed : well_formed r ≡ false → 14 ≡ fault_of (asked_checks r level)
  unfolding asked_checks
  not-formed e = stops-with 0 (asked_checks r level) (rw e tt)

  pub not-a-level : well_formed r ≡ true → hypervisor < level → 15 ≡ fault_of (asked_checks r level)
  unfolding asked_checks
  not-a-level e h = stops-with 1 (asked_checks r level) (rw e tt, lt→nleb level hypervisor h)

  pub all-good : well_formed r ≡ true → level ≤ hypervisor → 0 ≡ fault_of (asked_checks r level)
  unfolding asked_checks fault_of
  all-good e h = sym (passes (λ (n : ℕ). n) (asked_checks r level) 0 (rw e tt, (le→leb level hypervisor h, tt)))

  pub numbered : Numbered (asked_checks r level)
  unfolding asked_checks
  numbered = (omega arith, (omega arith, tt))

  -- how a call ends that asks this first, by the number that was found
  module _ {A : Type 0} (zeros value : A) {n : ℕ} (e : n ≡ fault_of (asked_checks r level)) where
    pub asked-refused : (n ≡ 0 → ⊥) → refuse zeros n ≡ first_fault (refuse zeros) (asked_checks r level) (answer value)
    asked-refused ne = ap (refuse zeros) e ∙ sym (fault-refuses (refuse zeros) (asked_checks r level) (answer value) (λ z. ne (e ∙ z)))

    pub asked-answered : n ≡ 0 → answer value ≡ first_fault (refuse zeros) (asked_checks r level) (answer value)
    asked-answered z = sym (fault-answers (refuse zeros) (asked_checks r level) (answer value) numbered (sym e ∙ z))

  pub asked-formed : {n : ℕ} → n ≡ fault_of (asked_checks r level) → n ≡ 0 → well_formed r ≡ true
  asked-formed e z = go (well_formed r) refl
    where
      go : (b : Bool) → well_formed r ≡ b → well_formed r ≡ true
      go true q = q
      go false q = let k : ◌≡◌ {A = ℕ} 14 0 = not-formed q ∙ sym e ∙ z in absurd (omega arith)

-- a record that is examined feature by feature, at a level no higher than the highest: the first i of them fit, and are seen
pub record SeenTo (r : Record) (level : ℕ) (g : Grants) (i : ℕ) (set counts : List ℕ) : Type 0 where
  pub within : i ≤ r.count
  pub few : r.count ≤ most_features
  pub fit : every i (feature_fits r) ≡ true
  pub permitted : set ≡ collect set_words i (permitted_at r (min level hypervisor) g)
  pub counted : counts ≡ padded most_features 0 (each i (λ (j : ℕ). dependency_count (feature_at r j)))

module _ (r : Record) (level : ℕ) (g : Grants) where
  abbrev fits_in : ℕ → Bool
  fits_in i = fits_at (feature_at r i) r.slots r.count i

  -- a refusal of the record, or of the level
  not-well : well_formed r ≡ false → refuse nothing_seen 14 ≡ examined r level g
  unfolding examined
  not-well w = asked-refused r level nothing_seen _ (not-formed r level w) (λ z. absurd (omega arith))

  pub many-seen : most_features < r.count → refuse nothing_seen 14 ≡ examined r level g
  many-seen h = not-well (sym (formed-many r h))

  pub seen_none : {set counts : List ℕ} → r.count ≤ most_features → set ≡ set_of no_members → counts ≡ replicate most_features 0 → SeenTo r level g 0 set counts
  unfolding every
  seen_none h e q = record { within = omega arith; few = h; fit = refl; permitted = none_yet (permitted_at r (min level hypervisor) g) e; counted = q }

  module _ (i : ℕ) {set counts : List ℕ} (s : SeenTo r level g i set counts) where
    pub seen-not : i < r.count → {b : Bool} → b ≡ fits_in i → b ≡ false → refuse nothing_seen 14 ≡ examined r level g
    seen-not h e q = not-well (sym (formed-not r i h (omega (arith, s.few)) e q))

    -- with a position, where it is permitted
    pub seen_next : i < r.count → {b on : Bool} {m : ℕ} {new : List ℕ} → b ≡ fits_in i → b ≡ true → m ≡ dependency_count (feature_at r i)
        → {known : ℕ} → known ≡ min level hypervisor → on ≡ is_permitted (feature_at r i) known g i → new ≡ cond on (with_member set i) set
        → SeenTo r level g (i + 1) new (store counts i m)
    seen_next h e q k l on n =
        record {
          within = omega arith;
          few = s.few;
          fit = formed-next r i s.fit (omega (arith, s.few)) e q;
          permitted =
              n
              ∙ next (permitted_at r (min level hypervisor) g) i s.permitted (omega (arith, s.few))
              (on ∙ ap (λ (x : ℕ). is_permitted (feature_at r i) x g i) l);
          counted =
              ap₂ (λ (l : List ℕ) (x : ℕ). store l i x) s.counted k
              ∙ padded-each most_features 0 (λ (j : ℕ). dependency_count (feature_at r j)) i (omega (arith, s.few));
        }

    module _ (done : r.count ≤ i) where
      all_fit : well_formed r ≡ true
      all_fit = sym (formed-all r (omega (arith, s.within)) s.few s.fit)

      pub seen-level : hypervisor < level → refuse nothing_seen 15 ≡ examined r level g
      unfolding examined
      seen-level h = asked-refused r level nothing_seen _ (not-a-level r level all_fit h) (λ z. absurd (omega arith))

      pub seen_all : level ≤ hypervisor → ◌≡◌ {A = Outcome Seen} (answer (record { set = set; counts = counts })) (examined r level g)
      unfolding examined dependency_counts
      seen_all h =
          let n : i ≡ min r.count most_features = omega (arith, s.few, s.within) in
          let at : min level hypervisor ≡ level = omega arith in
          ap₂ (λ (x y : List ℕ). answer (record { set = x; counts = y }))
          (set-is-permitted r (min level hypervisor) g s.permitted n ∙ ap (λ (x : ℕ). permitted_set r x g) at)
          (s.counted ∙ ap (λ (m : ℕ). padded most_features 0 (each m (λ (j : ℕ). dependency_count (feature_at r j)))) n)
          ∙ asked-answered r level nothing_seen _ (all-good r level all_fit h) refl

  -- what an examination tells the calls that follow
  module _ {o : Outcome Seen} (e : o ≡ examined r level g) where
    abbrev found : ℕ
    found = fault_of (asked_checks r level)

    pub seen-number : o.number ≡ found
    unfolding examined
    seen-number = ap (λ (x : Outcome Seen). x.number) e ∙ go (ℕ_discrete found 0)
      where
        go : Dec (found ≡ 0) → (examined r level g).number ≡ found
        go (yes z) = ap (λ (x : Outcome Seen). x.number) (sym (asked-answered r level nothing_seen _ refl z)) ∙ sym z
        go (no z) = ap (λ (x : Outcome Seen). x.number) (sym (asked-refused r level nothing_seen _ refl z))

    pub seen_value : o.number ≡ 0 → o.value ≡ record { set = permitted_set r level g; counts = dependency_counts r }
    unfolding examined
    seen_value z = ap (λ (x : Outcome Seen). x.value) (e ∙ sym (asked-answered r level nothing_seen _ seen-number z))

    -- the call for the permitted set
    abbrev set_only : Outcome Seen → Outcome (List ℕ)
    set_only x = record { number = x.number; value = x.value.set }

    pub permitted-seen : set_only o ≡ permitted r level g
    unfolding examined permitted
    permitted-seen = ap set_only e ∙ go (ℕ_discrete found 0)
      where
        go : Dec (found ≡ 0) → set_only (examined r level g) ≡ permitted r level g
        go (yes z) =
            ap set_only (sym (asked-answered r level nothing_seen _ refl z)) ∙ asked-answered r level (set_of no_members) _ refl z
        go (no z) = ap set_only (sym (asked-refused r level nothing_seen _ refl z)) ∙ asked-refused r level (set_of no_members) _ refl z
