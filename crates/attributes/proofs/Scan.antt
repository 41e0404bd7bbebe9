-- Laws of looking for the descriptor of type 0, descriptor by descriptor: what is left decides the whole. Assumes nothing.
use mathlib.Core.Path.{◌≡◌, refl, sym, ap, ◌∙◌}
use mathlib.Core.List.{List, [], ◌∷◌, ◌++◌, append_assoc, append-nil}
use Prim.Native.Nat.{ℕ, suc, zero, ◌+◌, ◌-◌, ◌<◌, ◌≤◌}
use mathlib.Core.Bool.{Bool, true, false}
use native.Mathlib.Omega.{arith}
use borrow.Author.Tests.{lt-ltb, le-ltb}
use lib.Dec.{leb→le, ltb, ltb→lt}
use lib.ListN.{length, take, drop, length-append, length-take}
use Rattle.refusal.specs.Refusal.{Outcome, number_of, answer, refuse}
use Rattle.refusal.specs.declared.Refusal.{Refusal}
use Rattle.refusal.specs.Checks.{Check, first_fault, fault_of}
use Rattle.refusal.proofs.Numbers.{numbered as no_number}
use Rattle.refusal.proofs.Checks.{Passes, holds_on, passes_on, stops, passes, Numbered, numbered-both, no-fault-passes, fault-some, fault-answers, fault-refuses, tests}
use Rattle.attributes.specs.Attributes.{length_at, type_at, bytes_at, next_at, descriptor_checks, checks_from, if_type_zero, type_zero_from, type_zero, first_of, type_checks, attribute_checks, attribute_bytes, most_bytes}

abbrev number : ℕ → ℕ
number n = n

-- one descriptor more is read
module _ (value : List ℕ) (at k : ℕ) (h : at < length value) where
  pub checks-step : checks_from (suc k) value at ≡ descriptor_checks value at ++ checks_from k value (next_at value at)
  unfolding checks_from
  checks-step = rw (lt-ltb at (length value) h, checks_from)

  pub zeros-step : type_zero_from (suc k) value at ≡ if_type_zero (type_at value at) (bytes_at value at) (type_zero_from k value (next_at value at))
  unfolding type_zero_from
  zeros-step = rw (lt-ltb at (length value) h, type_zero_from)

module _ (value : List ℕ) (at : ℕ) (h : length value ≤ at) where
  pub checks-end : (k : ℕ) → checks_from k value at ≡ []
  unfolding checks_from
  checks-end zero = refl
  checks-end (suc k) = rw (le-ltb at (length value) h, checks_from)

  pub zeros-end : (k : ℕ) → type_zero_from k value at ≡ []
  unfolding type_zero_from
  zeros-end zero = refl
  zeros-end (suc k) = rw (le-ltb at (length value) h, type_zero_from)

-- the descriptors before `at` are read; `found` of them have type 0, the last of them with these bytes
pub record Scan (value : List ℕ) (found : ℕ) (bytes : List ℕ) (at : ℕ) : Type 0 where
  pub zeros : List (List ℕ)
  pub fuel : ℕ
  pub enough : length value ≤ fuel + at
  pub counted : found ≡ length zeros
  pub bounded : found ≤ at
  pub reached : at ≤ length value
  pub short : length bytes ≤ most_bytes
  pub alone : found ≡ 1 → bytes ≡ first_of zeros
  pub list : zeros ++ type_zero_from fuel value at ≡ type_zero value
  pub rest : fault_of (checks_from fuel value at ++ type_checks value) ≡ fault_of (attribute_checks value)

pub scan-none : (value : List ℕ) → 0 < length value → Scan value 0 [] 0
unfolding fault_of attribute_checks
scan-none value h = record {
  zeros = [];
  fuel = length value;
  enough = omega arith;
  counted = refl;
  bounded = omega arith;
  reached = omega arith;
  short = omega arith;
  alone = λ e. absurd (omega arith);
  list = refl;
  rest = sym (holds_on number _ _ 0 (omega (arith, tests)));
}

module _ {value : List ℕ} {found : ℕ} {bytes : List ℕ} {at : ℕ} (g : Scan value found bytes at) (h : at < length value) where
  k : ℕ
  k = g.fuel - 1

  fuel-step : g.fuel ≡ suc k
  unfolding k
  fuel-step = omega (arith, g.enough)

  here : fault_of (descriptor_checks value at ++ (checks_from k value (next_at value at) ++ type_checks value)) ≡ fault_of (attribute_checks value)
  here =
      ap fault_of (sym (append_assoc (descriptor_checks value at) (checks_from k value (next_at value at)) (type_checks value)))
      ∙ ap (λ (cs : List (Check ℕ)). fault_of (cs ++ type_checks value)) (sym (checks-step value at k h))
      ∙ (rw fuel-step at g.rest)

  pub scan-stops : {n : ℕ} → n ≡ fault_of (descriptor_checks value at) → (n ≡ 0 → ⊥) → n ≡ fault_of (attribute_checks value)
  unfolding fault_of
  scan-stops e ne = e ∙ sym (fault-some number (descriptor_checks value at) _ 0 (λ z. ne (e ∙ z))) ∙ here

  module _ (e : 0 ≡ fault_of (descriptor_checks value at)) where
    p : Passes (descriptor_checks value at)
    unfolding descriptor_checks
    p = no-fault-passes (descriptor_checks value at) (omega arith) (sym e)

    go-on : fault_of (checks_from k value (next_at value at) ++ type_checks value) ≡ fault_of (attribute_checks value)
    unfolding fault_of
    go-on = sym (passes_on number (descriptor_checks value at) _ 0 p) ∙ here

    zeros-here : g.zeros ++ if_type_zero (type_at value at) (bytes_at value at) (type_zero_from k value (next_at value at)) ≡ type_zero value
    zeros-here = rw (← zeros-step value at k h) (rw fuel-step at g.list)

    pub next-inside : next_at value at ≤ length value
    unfolding descriptor_checks
    next-inside = leb→le (next_at value at) (length value) p.1.1.1.0

    some_bytes : 0 < length_at value at
    unfolding descriptor_checks
    some_bytes = ltb→lt 0 (length_at value at) p.1.0

    few_bytes : length_at value at ≤ most_bytes
    unfolding descriptor_checks
    few_bytes = leb→le (length_at value at) most_bytes p.1.1.0

    pub scan-other : (type_at value at ≡ 0 → ⊥) → Scan value found bytes (next_at value at)
    unfolding k
    scan-other t =
        let e : type_at value at ≡ suc (type_at value at - 1) = omega arith in
        record {
          zeros = g.zeros;
          fuel = k;
          enough = omega (arith, g.enough, some_bytes);
          counted = g.counted;
          bounded = omega (arith, g.bounded);
          reached = next-inside;
          short = g.short;
          alone = g.alone;
          list = rw e at zeros-here;
          rest = go-on;
        }

    pub scan-found : type_at value at ≡ 0 → Scan value (found + 1) (take (next_at value at - (at + 2)) (drop (at + 2) value)) (next_at value at)
    unfolding k
    scan-found t = record {
      zeros = g.zeros ++ bytes_at value at ∷ [];
      fuel = k;
      enough = omega (arith, g.enough, some_bytes);
      counted = omega (arith, g.counted, length-append g.zeros (bytes_at value at ∷ []));
      bounded = omega (arith, g.bounded);
      reached = next-inside;
      short = omega (arith, few_bytes, length-take (next_at value at - (at + 2)) (drop (at + 2) value));
      alone = λ e. only g.zeros (omega (arith, g.counted));
      list = append_assoc g.zeros (bytes_at value at ∷ []) (type_zero_from k value (next_at value at)) ∙ (rw t at zeros-here);
      rest = go-on;
    }
      where
        only : (zs : List (List ℕ)) → length zs ≡ 0 → take (next_at value at - (at + 2)) (drop (at + 2) value) ≡ first_of (zs ++ bytes_at value at ∷ [])
        only [] e = let n : next_at value at - (at + 2) ≡ length_at value at = omega arith in rw n
        only (z ∷ zs) e = absurd (omega arith)

-- the value ends
module _ {value : List ℕ} {found : ℕ} {bytes : List ℕ} {at : ℕ} (g : Scan value found bytes at) (h : length value ≤ at) where
  all-zeros : g.zeros ≡ type_zero value
  all-zeros = sym (append-nil g.zeros) ∙ (rw (zeros-end value at h g.fuel) at g.list)

  all_found : found ≡ length (type_zero value)
  all_found = g.counted ∙ ap length all-zeros

  types-left : fault_of (type_checks value) ≡ fault_of (attribute_checks value)
  types-left = rw (checks-end value at h g.fuel) at g.rest

  pub found_none : found ≡ 0 → 10 ≡ fault_of (attribute_checks value)
  unfolding fault_of type_checks
  found_none e = let n : found ≡ length (type_zero value) = all_found in sym (stops number 0 0 (type_checks value) 0 (omega (arith, tests))) ∙ types-left

  pub found-two : 1 < found → 9 ≡ fault_of (attribute_checks value)
  unfolding fault_of type_checks
  found-two e = let n : found ≡ length (type_zero value) = all_found in sym (stops number 0 1 (type_checks value) 0 (omega (arith, tests))) ∙ types-left

  pub found-one : found ≡ 1 → 0 ≡ fault_of (attribute_checks value)
  unfolding fault_of type_checks
  found-one e = let n : found ≡ length (type_zero value) = all_found in sym (passes number (type_checks value) 0 (omega (arith, tests))) ∙ types-left

  pub found-bytes : found ≡ 1 → bytes ≡ attribute_bytes value
  unfolding attribute_bytes
  found-bytes e = g.alone e ∙ ap first_of all-zeros

numbered-from : (most : ℕ) (value : List ℕ) (at : ℕ) → Numbered (checks_from most value at)
unfolding checks_from descriptor_checks
numbered-from zero value at = tt
numbered-from (suc most) value at = go (ltb at (length value)) (numbered-from most value (next_at value at))
  where
    go : (b : Bool) → Numbered (checks_from most value (next_at value at)) → Numbered (elim b as (λ _. List (Check ℕ)) [ true ↦ descriptor_checks value at ++ checks_from most value (next_at value at) | false ↦ [] ])
    go true h = numbered-both (descriptor_checks value at) (checks_from most value (next_at value at)) (omega arith) h
    go false h = tt

pub numbered : (value : List ℕ) → Numbered (attribute_checks value)
unfolding attribute_checks type_checks
numbered value = (omega arith, numbered-both (checks_from (length value) value 0) (type_checks value) (numbered-from (length value) value 0) (omega arith))

-- what a call answers, whose checks are those of the bytes that are used: a refusal, or a value
module _ {A : Type 0} (none : A) (value : List ℕ) (a : A) where
  abbrev outcome : Outcome A
  outcome = first_fault (refuse none) (attribute_checks value) (answer a)

  pub bytes-refused : (e : Refusal) → number_of e ≡ fault_of (attribute_checks value) → refuse none (number_of e) ≡ outcome
  bytes-refused e h = rw h (sym (fault-refuses (refuse none) (attribute_checks value) (answer a) (λ z. no_number e (h ∙ z))))

  pub bytes-used : 0 ≡ fault_of (attribute_checks value) → answer a ≡ outcome
  bytes-used h = sym (fault-answers (refuse none) (attribute_checks value) (answer a) (numbered value) (sym h))
