-- Laws of checks in order. A proof says which check stops, by the tests that its path through the code passed. Assumes nothing.
use mathlib.Core.Path.{◌≡◌, refl, sym, ap, ◌∙◌}
use mathlib.Core.Bool.{Bool, true, false, not}
use mathlib.Core.Logic.{◌⊎◌, inl, inr}
use mathlib.Core.List.{List, [], ◌∷◌, ◌++◌, append-nil}
use Prim.Native.Nat.{ℕ, suc, zero, ◌<◌}
use lib.ListN.{drop}
use lib.Dec.{T, le→leb, lt→ltb, eqb, eqb_refl, not_T, eqb→eq}
use native.Mathlib.Omega.{arith}
use lib.Arith.{lt→nleb, le→nltb}
use Rattle.refusal.specs.Refusal.{answer, refuse, Fault, placed, refuse_at}
use Rattle.refusal.specs.Checks.{Check, check, first_fault, fault_of}

-- the first k checks hold, and the next one does not
abbrev pub Stops : {F : Type 0} → ℕ → List (Check F) → Type 0
Stops k [] = ⊥
Stops zero (c ∷ cs) = T (not c.holds)
Stops (suc k) (c ∷ cs) = T c.holds × Stops k cs

-- all of them hold
abbrev pub Passes : {F : Type 0} → List (Check F) → Type 0
Passes [] = Unit
Passes (c ∷ cs) = T c.holds × Passes cs

-- the first k of them hold
abbrev pub Holds : {F : Type 0} → ℕ → List (Check F) → Type 0
Holds zero cs = Unit
Holds (suc k) [] = Unit
Holds (suc k) (c ∷ cs) = T c.holds × Holds k cs

module _ {F : Type 0} where
  -- those of two lists hold where those of each hold
  pub passes-join : (cs ds : List (Check F)) → Passes cs → Passes ds → Passes (cs ++ ds)
  passes-join [] ds h k = k
  passes-join (c ∷ cs) ds h k = (h.0, passes-join cs ds h.1 k)

  pub passes-both : (cs ds : List (Check F)) → Passes (cs ++ ds) → Passes cs × Passes ds
  passes-both [] ds h = (tt, h)
  passes-both (c ∷ cs) ds h = let r = passes-both cs ds h.1 in ((h.0, r.0), r.1)

abbrev pub fault_at : {F : Type 0} → F → ℕ → List (Check F) → F
fault_at d k [] = d
fault_at d zero (c ∷ cs) = c.fault
fault_at d (suc k) (c ∷ cs) = fault_at d k cs

module _ {F A : Type 0} (refuse : F → A) where
  -- one check: it holds, and the others decide; or it decides
  pub holds_on : (c : Check F) (cs : List (Check F)) (a : A) → T c.holds → first_fault refuse (c ∷ cs) a ≡ first_fault refuse cs a
  unfolding first_fault
  holds_on c cs a h = go c.holds h
    where
      go : (b : Bool) → T b → (elim b as (λ _. A) [ true ↦ first_fault refuse cs a | false ↦ refuse c.fault ]) ≡ first_fault refuse cs a
      go true t = refl
      go false t = absurd t

  pub fails-here : (c : Check F) (cs : List (Check F)) (a : A) → T (not c.holds) → first_fault refuse (c ∷ cs) a ≡ refuse c.fault
  unfolding first_fault
  fails-here c cs a h = go c.holds h
    where
      go : (b : Bool) → T (not b) → (elim b as (λ _. A) [ true ↦ first_fault refuse cs a | false ↦ refuse c.fault ]) ≡ refuse c.fault
      go true t = absurd t
      go false t = refl

  pub stops : (d : F) (k : ℕ) (cs : List (Check F)) (a : A) → Stops k cs → first_fault refuse cs a ≡ refuse (fault_at d k cs)
  stops d zero (c ∷ cs) a h = fails-here c cs a h
  stops d (suc k) (c ∷ cs) a h = rw (holds_on c cs a h.0) (stops d k cs a h.1)
  stops d k [] a h = absurd h

  pub passes : (cs : List (Check F)) (a : A) → Passes cs → first_fault refuse cs a ≡ a
  unfolding first_fault
  passes [] a h = refl
  passes (c ∷ cs) a h = rw (holds_on c cs a h.0) (passes cs a h.1)

  -- where the first k hold, the others decide
  pub others-decide : (k : ℕ) (cs : List (Check F)) (a : A) → Holds k cs → first_fault refuse cs a ≡ first_fault refuse (drop k cs) a
  others-decide zero cs a h = refl
  others-decide (suc k) [] a h = refl
  others-decide (suc k) (c ∷ cs) a h = holds_on c cs a h.0 ∙ others-decide k cs a h.1

  -- all hold, or one refuses
  pub either_way : (cs : List (Check F)) (a : A) → ((first_fault refuse cs a ≡ a) × Passes cs) ⊎ ((f : F) × (first_fault refuse cs a ≡ refuse f))
  unfolding first_fault
  either_way [] a = inl (refl, tt)
  either_way (c ∷ cs) a = go c.holds refl (either_way cs a)
    where
      go : (b : Bool) → c.holds ≡ b → ((first_fault refuse cs a ≡ a) × Passes cs) ⊎ ((f : F) × (first_fault refuse cs a ≡ refuse f)) → ((first_fault refuse (c ∷ cs) a ≡ a) × (T c.holds × Passes cs)) ⊎ ((f : F) × (first_fault refuse (c ∷ cs) a ≡ refuse f))
      go true e (inl h) = inl (rw (e, first_fault) h.0, (rw e tt, h.1))
      go true e (inr h) = inr (h.0, rw (e, first_fault) h.1)
      go false e h = inr (c.fault, rw (e, first_fault))

  -- checks that all hold change nothing in front of others
  pub passes_on : (cs ds : List (Check F)) (a : A) → Passes cs → first_fault refuse (cs ++ ds) a ≡ first_fault refuse ds a
  passes_on [] ds a h = refl
  passes_on (c ∷ cs) ds a h = rw (holds_on c (cs ++ ds) a h.0) (passes_on cs ds a h.1)

  -- the first part decides where one of its checks fails
  pub stops-in : (d : F) (k : ℕ) (cs ds : List (Check F)) (a : A) → Stops k cs → first_fault refuse (cs ++ ds) a ≡ refuse (fault_at d k cs)
  stops-in d zero (c ∷ cs) ds a h = fails-here c (cs ++ ds) a h
  stops-in d (suc k) (c ∷ cs) ds a h = rw (holds_on c (cs ++ ds) a h.0) (stops-in d k cs ds a h.1)
  stops-in d k [] ds a h = absurd h

  -- two lists of checks: equal tests in front, and where they hold the same after them
  pub check-same : (b c : Bool) (f : F) (cs ds : List (Check F)) (x y : A) → b ≡ c → (b ≡ true → first_fault refuse cs x ≡ first_fault refuse ds y)
      → first_fault refuse (check b f ∷ cs) x ≡ first_fault refuse (check c f ∷ ds) y
  unfolding first_fault
  check-same b c f cs ds x y e same = go b same ∙ ap (λ (t : Bool). first_fault refuse (check t f ∷ ds) y) e
    where
      go : (t : Bool) → (t ≡ true → first_fault refuse cs x ≡ first_fault refuse ds y) → first_fault refuse (check t f ∷ cs) x ≡ first_fault refuse (check t f ∷ ds) y
      go true h = h refl
      go false h = refl

  -- a check that holds where all before it hold changes nothing
  pub follows : (cs : List (Check F)) (c : Check F) (a : A) → (Passes cs → T c.holds) → first_fault refuse (cs ++ (c ∷ [])) a ≡ first_fault refuse cs a
  follows [] c a h = holds_on c [] a (h tt)
  follows (d ∷ ds) c a h =
      check-same d.holds d.holds d.fault (ds ++ (c ∷ [])) ds a a refl (λ e. follows ds c a (λ p. h (rw e tt, p)))

-- every fault is a number of the table, and not 0
abbrev pub Numbered : List (Check ℕ) → Type 0
Numbered [] = Unit
Numbered (c ∷ cs) = (0 < c.fault) × Numbered cs

pub numbered-both : (cs ds : List (Check ℕ)) → Numbered cs → Numbered ds → Numbered (cs ++ ds)
numbered-both [] ds h k = k
numbered-both (c ∷ cs) ds h k = (h.0, numbered-both cs ds h.1 k)

-- the number of some checks: by the one that stops, or by the others where the first holds
pub stops-with : (k : ℕ) (cs : List (Check ℕ)) → Stops k cs → fault_at 0 k cs ≡ fault_of cs
unfolding fault_of
stops-with k cs h = sym (stops (λ (n : ℕ). n) 0 k cs 0 h)

pub next-decides : (c : Check ℕ) (cs : List (Check ℕ)) → T c.holds → fault_of (c ∷ cs) ≡ fault_of cs
unfolding fault_of
next-decides c cs h = holds_on (λ (n : ℕ). n) c cs 0 h

-- where no check has a fault, all hold
pub no-fault-passes : (cs : List (Check ℕ)) → Numbered cs → fault_of cs ≡ 0 → Passes cs
unfolding fault_of first_fault
no-fault-passes [] n e = tt
no-fault-passes (c ∷ cs) n e = go c.holds refl (no-fault-passes cs n.1)
  where
    go : (b : Bool) → c.holds ≡ b → (fault_of cs ≡ 0 → Passes cs) → T c.holds × Passes cs
    go true h f = (rw h tt, f (rw (h, first_fault) at e))
    go false h f = let z : c.fault ≡ 0 = rw (h, first_fault) at e in absurd (omega arith)

-- the number of some checks decides what they do in front of others
module _ {A : Type 0} (refuse : ℕ → A) where
  pub fault-some : (cs ds : List (Check ℕ)) (a : A) → (fault_of cs ≡ 0 → ⊥) → first_fault refuse (cs ++ ds) a ≡ refuse (fault_of cs)
  unfolding fault_of first_fault
  fault-some [] ds a h = absurd (h refl)
  fault-some (c ∷ cs) ds a h = go c.holds refl (fault-some cs ds a)
    where
      go : (b : Bool) → c.holds ≡ b → ((fault_of cs ≡ 0 → ⊥) → first_fault refuse (cs ++ ds) a ≡ refuse (fault_of cs)) → first_fault refuse (c ∷ (cs ++ ds)) a ≡ refuse (fault_of (c ∷ cs))
      go true e f = rw (e, first_fault) (f (rw (e, first_fault) at h))
      go false e f = rw (e, first_fault)

  pub fault-none : (cs ds : List (Check ℕ)) (a : A) → Numbered cs → fault_of cs ≡ 0 → first_fault refuse (cs ++ ds) a ≡ first_fault refuse ds a
  unfolding fault_of first_fault
  fault-none [] ds a n h = refl
  fault-none (c ∷ cs) ds a n h = go c.holds refl (fault-none cs ds a n.1)
    where
      go : (b : Bool) → c.holds ≡ b → (fault_of cs ≡ 0 → first_fault refuse (cs ++ ds) a ≡ first_fault refuse ds a) → first_fault refuse (c ∷ (cs ++ ds)) a ≡ first_fault refuse ds a
      go true e f = rw (e, first_fault) (f (rw (e, first_fault) at h))
      go false e f = let z : c.fault ≡ 0 = rw (e, first_fault) at h in absurd (omega arith)

  -- the same of checks with nothing after them
  pub fault-refuses : (cs : List (Check ℕ)) (a : A) → (fault_of cs ≡ 0 → ⊥) → first_fault refuse cs a ≡ refuse (fault_of cs)
  fault-refuses cs a h = ap (λ (l : List (Check ℕ)). first_fault refuse l a) (sym (append-nil cs)) ∙ fault-some cs [] a h

  pub fault-answers : (cs : List (Check ℕ)) (a : A) → Numbered cs → fault_of cs ≡ 0 → first_fault refuse cs a ≡ a
  unfolding first_fault
  fault-answers cs a n h = ap (λ (l : List (Check ℕ)). first_fault refuse l a) (sym (append-nil cs)) ∙ fault-none cs [] a n h

-- an outcome has the number of its checks
pub outcome-number : {A : Type 0} (none value : A) (cs : List (Check ℕ)) → (first_fault (refuse none) cs (answer value)).number ≡ fault_of cs
unfolding fault_of first_fault
outcome-number none value [] = refl
outcome-number none value (c ∷ cs) = go c.holds refl (outcome-number none value cs)
  where
    go : (b : Bool) → c.holds ≡ b → (first_fault (refuse none) cs (answer value)).number ≡ fault_of cs → (first_fault (refuse none) (c ∷ cs) (answer value)).number ≡ fault_of (c ∷ cs)
    go true e f = rw (e, first_fault) f
    go false e f = rw (e, first_fault)

-- an outcome whose value goes through a function: that of the same checks, with the values that the function gives
module _ {A B : Type 0} (f : A → B) (none value : A) (none' value' : B) where
  abbrev Through : List (Check ℕ) → Type 0
  Through cs = let o = first_fault (refuse none) cs (answer value) in record { number = o.number; value = f o.value } ≡ first_fault (refuse none') cs (answer value')

  pub outcome-through : (cs : List (Check ℕ)) → f none ≡ none' → (Passes cs → f value ≡ value') → Through cs
  unfolding first_fault
  outcome-through [] z e = ap answer (e tt)
  outcome-through (c ∷ cs) z e = go c.holds refl (λ p. outcome-through cs z p)
    where
      go : (b : Bool) → c.holds ≡ b → ((Passes cs → f value ≡ value') → Through cs) → Through (c ∷ cs)
      go true h more = rw (h, first_fault) (more (λ p. e (rw h tt, p)))
      go false h more = rw (h, first_fault, z)

-- what holds of the zeros, and of the value where all checks hold, holds of an outcome's value
pub outcome-holds : {A : Type 0} (P : A → Type 0) (none value : A) (cs : List (Check ℕ)) → P none → (Passes cs → P value)
    → P (first_fault (refuse none) cs (answer value)).value
outcome-holds P none value cs z v = go (either_way (refuse none) cs (answer value))
  where
    go : ((first_fault (refuse none) cs (answer value) ≡ answer value) × Passes cs) ⊎ ((n : ℕ) × (first_fault (refuse none) cs (answer value) ≡ refuse none n))
        → P (first_fault (refuse none) cs (answer value)).value
    go (inl h) = rw h.0 (v h.1)
    go (inr h) = rw h.1 z

-- an outcome that is an answer passed all of its checks
pub answered : {A : Type 0} (none value : A) (cs : List (Check ℕ)) → Numbered cs → (first_fault (refuse none) cs (answer value)).number ≡ 0 → Passes cs
answered none value cs n e = no-fault-passes cs n (sym (outcome-number none value cs) ∙ e)

-- the same of checks with a place
abbrev pub NumberedAt : List (Check Fault) → Type 0
NumberedAt [] = Unit
NumberedAt (c ∷ cs) = (0 < c.fault.number) × NumberedAt cs

pub answered-at : {A : Type 0} (none value : A) (cs : List (Check Fault)) → NumberedAt cs → (first_fault (refuse_at none) cs (placed value)).number ≡ 0 → Passes cs
unfolding first_fault
answered-at none value [] n e = tt
answered-at none value (c ∷ cs) n e = go c.holds refl (answered-at none value cs n.1)
  where
    go : (b : Bool) → c.holds ≡ b → ((first_fault (refuse_at none) cs (placed value)).number ≡ 0 → Passes cs) → T c.holds × Passes cs
    go true h f = (rw h tt, f (rw (h, first_fault) at e))
    go false h f = let z : c.fault.number ≡ 0 = rw (h, first_fault) at e in absurd (omega arith)

pub eq→eqb : (m n : ℕ) → m ≡ n → T (eqb m n)
eq→eqb m n e = rw e (eqb_refl n)

pub ne→neqb : (m n : ℕ) → (m ≡ n → ⊥) → T (not (eqb m n))
ne→neqb m n h = not_T (eqb m n) (λ t. h (eqb→eq m n t))

-- tests from facts on numbers, for `omega`
pub ruleset tests = (le→leb, lt→ltb, eq→eqb, lt→nleb, le→nltb, ne→neqb)
