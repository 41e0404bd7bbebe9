-- Laws of strings and of equal byte runs. Assumes nothing.
use mathlib.Core.Path.{◌≡◌, refl, sym, ap, ap₂, ◌∙◌}
use mathlib.Core.Bool.{Bool, true, false, cond, ◌&&◌}
use mathlib.Core.List.{List, [], ◌∷◌}
use Prim.Native.Nat.{ℕ, suc, zero, ◌+◌, ◌-◌, ◌<◌, ◌≤◌, min}
use native.Mathlib.Omega.{arith}
use native.Mathlib.Numerals.{add-one}
use borrow.Author.Tests.{eq-eqb, ne_eqb, eqb-true}
use lib.Dec.{eqb}
use lib.Pointwise.{pointwise}
use lib.ListN.{get_or, length, take, drop, drop_of_length-le, length-take, length-drop}
use lib.Seq.{drop-cons, take-nil, take_all, take-take, get_or-take, get_or-drop}
use native.Mathlib.Decide.{dec_lt}
use Rattle.std.proofs.Common.{Option, Some, None}
use Rattle.std.proofs.lemmas.Iterator.Adapters.{position_from-zero}
use Rattle.std.specs.List.{slice_range, position, position_from}
use Rattle.std.specs.Option.{option_map}
use Rattle.strings.specs.Strings.{Text, ended, unended, onto, text_of, text_at, ending_of, same_bytes}

-- a string in a block, byte by byte
module _ (s : List ℕ) (end i : ℕ) where
  pub text-none : min (length s) end ≤ i → text_at s i end ≡ unended
  unfolding text_at text_of
  text-none h = ap text_of (go (end - i) refl)
    where
      go : (n : ℕ) → end - i ≡ n → take n (drop i s) ≡ []
      go zero e = refl
      go (suc n) e = let p : length s ≤ i = omega arith in rw (drop_of_length-le s p) (take-nil (suc n))

  cons-at : i < min (length s) end → take (end - i) (drop i s) ≡ get_or s i 0 ∷ take (end - (i + 1)) (drop (i + 1) s)
  cons-at h =
      let e : end - i ≡ suc (end - (i + 1)) = omega arith in
      let k : i < length s = omega arith in
      rw (e, drop-cons s i 0 k, add-one i)

  pub text-empty : i < min (length s) end → get_or s i 0 ≡ 0 → text_at s i end ≡ ended []
  unfolding text_at text_of
  text-empty h z = rw (cons-at h, eq-eqb (get_or s i 0) 0 z, text_of)

  pub text-more : i < min (length s) end → (get_or s i 0 ≡ 0 → ⊥) → text_at s i end ≡ onto (get_or s i 0) (text_at s (i + 1) end)
  unfolding text_at text_of
  text-more h z = rw (cons-at h, ne_eqb (get_or s i 0) 0 z, text_of)

-- it ends at the first zero byte of its block
abbrev pub zero_byte : ℕ → Bool
zero_byte b = eqb b 0

ends-first : (from i : ℕ) (bs : List ℕ) → ending_of (from + i) (text_of bs) ≡ option_map (λ (n : ℕ). from + n) (position_from zero_byte i bs)
unfolding ending_of text_of
ends-first from i [] = refl
ends-first from i (b ∷ bs) = go (eqb b 0) (text_of bs) (ends-first from (i + 1) bs)
  where
    go : (q : Bool) (t : Text) → ending_of (from + (i + 1)) t ≡ option_map (λ (n : ℕ). from + n) (position_from zero_byte (i + 1) bs)
        → ending_of (from + i) (elim q as (λ _. Text) [ true ↦ ended [] | false ↦ onto b t ])
        ≡ option_map (λ (n : ℕ). from + n) (cond q (Some i) (position_from zero_byte (i + 1) bs))
    go true t e = ap Some (omega arith)
    go false (ended cs) e = ap Some (omega arith) ∙ e
    go false unended e = e

module _ (s : List ℕ) (from end : ℕ) where
  -- no block begins at its end, or behind it
  pub no_text : min end (length s) < from → None ≡ ending_of from (text_at s from end)
  unfolding ending_of
  no_text h = rw (text-none s end from (omega arith))

  pub text-block : from ≤ length s → text_at s from end ≡ text_of (slice_range s from (min end (length s)))
  unfolding text_at
  text-block h = ap text_of (go (dec_lt (length s) end))
    where
      go : Dec (length s < end) → take (end - from) (drop from s) ≡ slice_range s from (min end (length s))
      go (yes l) =
          let e : min end (length s) ≡ length s = omega arith in
          rw (e, take_all (end - from) (drop from s) (omega (arith, length-drop from s)), take_all (length s - from) (drop from s) (omega (arith, length-drop from s)))
      go (no l) = let e : min end (length s) ≡ end = omega arith in rw e

  pub text-ends : {stop : ℕ} {block : List ℕ} {place : Option ℕ} → stop ≡ min end (length s) → from ≤ stop → block ≡ slice_range s from stop
      → place ≡ position zero_byte block → option_map (λ (n : ℕ). from + n) place ≡ ending_of from (text_at s from end)
  text-ends {stop} {block} {place} m h b p =
      let z : from + 0 ≡ from = omega arith in
      ap (option_map (λ (n : ℕ). from + n)) (p ∙ position_from-zero zero_byte block)
      ∙ sym (ends-first from 0 block)
      ∙ rw (z, b, m, text-block (omega arith))

-- a string ends before its block does, and before the bytes do
shorter : (bs cs : List ℕ) → text_of bs ≡ ended cs → length cs < length bs
unfolding text_of
shorter [] cs e = let z : ◌≡◌ {A = ℕ} 0 1 = cc in omega arith
shorter (b ∷ bs) cs e = go (eqb b 0) (text_of bs) (shorter bs) e
  where
    go : (q : Bool) (t : Text) → ((ds : List ℕ) → t ≡ ended ds → length ds < length bs)
        → (elim q as (λ _. Text) [ true ↦ ended [] | false ↦ onto b t ]) ≡ ended cs → length cs < suc (length bs)
    go true t f p = let l : cs ≡ [] = cc in omega (arith, ap length l)
    go false (ended ds) f p = let l : cs ≡ b ∷ ds = cc in omega (arith, ap length l, f ds refl)
    go false unended f p = let z : ◌≡◌ {A = ℕ} 0 1 = cc in omega arith

pub text-within : (s : List ℕ) (from end : ℕ) (cs : List ℕ) → text_at s from end ≡ ended cs → (from + length cs < end) × (from + length cs < length s)
unfolding text_at
text-within s from end cs e =
    omega (arith, shorter (take (end - from) (drop from s)) cs e, length-take (end - from) (drop from s), length-drop from s)

-- its characters are the bytes from its place on
taken : (bs cs : List ℕ) → text_of bs ≡ ended cs → take (length cs) bs ≡ cs
unfolding text_of
taken [] cs e = let z : ◌≡◌ {A = ℕ} 0 1 = cc in absurd (omega arith)
taken (b ∷ bs) cs e = go (eqb b 0) (text_of bs) (taken bs) e
  where
    go : (q : Bool) (t : Text) → ((ds : List ℕ) → t ≡ ended ds → take (length ds) bs ≡ ds)
        → (elim q as (λ _. Text) [ true ↦ ended [] | false ↦ onto b t ]) ≡ ended cs → take (length cs) (b ∷ bs) ≡ cs
    go true t f p = let l : cs ≡ [] = cc in rw l
    go false (ended ds) f p = let l : cs ≡ b ∷ ds = cc in rw l (ap (λ (xs : List ℕ). b ∷ xs) (f ds refl))
    go false unended f p = let z : ◌≡◌ {A = ℕ} 0 1 = cc in absurd (omega arith)

pub text-taken : (s : List ℕ) (from end : ℕ) (cs : List ℕ) → text_at s from end ≡ ended cs → take (length cs) (drop from s) ≡ cs
unfolding text_at
text-taken s from end cs e =
    let l : length cs ≤ end - from = omega (arith, shorter (take (end - from) (drop from s)) cs e, length-take (end - from) (drop from s)) in
    sym (take-take (length cs) (end - from) (drop from s) l) ∙ taken (take (end - from) (drop from s)) cs e

-- and its zero byte follows
zero-behind : (bs cs : List ℕ) → text_of bs ≡ ended cs → get_or bs (length cs) 0 ≡ 0
unfolding text_of
zero-behind [] cs e = let z : ◌≡◌ {A = ℕ} 0 1 = cc in absurd (omega arith)
zero-behind (b ∷ bs) cs e = go (eqb b 0) refl (text_of bs) (zero-behind bs) e
  where
    go : (q : Bool) → eqb b 0 ≡ q → (t : Text) → ((ds : List ℕ) → t ≡ ended ds → get_or bs (length ds) 0 ≡ 0)
        → (elim q as (λ _. Text) [ true ↦ ended [] | false ↦ onto b t ]) ≡ ended cs → get_or (b ∷ bs) (length cs) 0 ≡ 0
    go true h t f p = let l : cs ≡ [] = cc in rw l (eqb-true b 0 h)
    go false h (ended ds) f p = let l : cs ≡ b ∷ ds = cc in rw l (f ds refl)
    go false h unended f p = let z : ◌≡◌ {A = ℕ} 0 1 = cc in absurd (omega arith)

pub text-zero : (s : List ℕ) (from end : ℕ) (cs : List ℕ) → text_at s from end ≡ ended cs → get_or s (from + length cs) 0 ≡ 0
unfolding text_at
text-zero s from end cs e =
    let l : length cs < end - from = omega (arith, shorter (take (end - from) (drop from s)) cs e, length-take (end - from) (drop from s)) in
    sym (get_or-drop from s (length cs) 0)
    ∙ sym (get_or-take (end - from) (drop from s) (length cs) 0 l)
    ∙ zero-behind (take (end - from) (drop from s)) cs e

-- the test says whether the runs are equal
pub same_true : (a b : List ℕ) → same_bytes a b ≡ true → a ≡ b
unfolding same_bytes
same_true [] [] e = refl
same_true [] (y ∷ ys) e = cc
same_true (x ∷ xs) [] e = cc
same_true (x ∷ xs) (y ∷ ys) e = go (eqb x y) refl (same_true xs ys) e
  where
    go : (t : Bool) → eqb x y ≡ t → (same_bytes xs ys ≡ true → xs ≡ ys) → (elim t as (λ _. Bool) [ true ↦ same_bytes xs ys | false ↦ false ]) ≡ true → x ∷ xs ≡ y ∷ ys
    go true p f q = ap₂ (λ (a : ℕ) (l : List ℕ). a ∷ l) (eqb-true x y p) (f q)
    go false p f q = cc

pub same-pointwise : (a b : List ℕ) → pointwise eqb a b ≡ same_bytes a b
unfolding same_bytes
same-pointwise [] [] = refl
same-pointwise [] (y ∷ ys) = refl
same-pointwise (x ∷ xs) [] = refl
same-pointwise (x ∷ xs) (y ∷ ys) = go (eqb x y) (same-pointwise xs ys)
  where
    go : (t : Bool) → pointwise eqb xs ys ≡ same_bytes xs ys → (t && pointwise eqb xs ys) ≡ (elim t as (λ _. Bool) [ true ↦ same_bytes xs ys | false ↦ false ])
    go true e = e
    go false e = refl

pub same_refl : (a : List ℕ) → same_bytes a a ≡ true
unfolding same_bytes
same_refl [] = refl
same_refl (x ∷ xs) = rw (eq-eqb x x refl, same_bytes) (same_refl xs)

pub same_false : (a b : List ℕ) → (a ≡ b → ⊥) → same_bytes a b ≡ false
same_false a b h = go (same_bytes a b) refl
  where
    go : (t : Bool) → same_bytes a b ≡ t → t ≡ false
    go true e = absurd (h (same_true a b e))
    go false e = refl

-- runs that are equal exactly when two others are
pub same-same : (a b c d : List ℕ) → (a ≡ b → c ≡ d) → (c ≡ d → a ≡ b) → same_bytes a b ≡ same_bytes c d
same-same a b c d f g = go (same_bytes a b) refl
  where
    apart : false ≡ true → ⊥
    apart e = let z : ◌≡◌ {A = ℕ} 0 1 = cc in omega arith

    go : (t : Bool) → same_bytes a b ≡ t → t ≡ same_bytes c d
    go true e = sym (rw (← f (same_true a b e)) (same_refl c))
    go false e = sym (same_false c d (λ q. apart (sym e ∙ rw (g q) (same_refl b))))
