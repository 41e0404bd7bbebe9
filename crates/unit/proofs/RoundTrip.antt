-- Reading what is written, over the largest number allowed. Assumes nothing.
use mathlib.Core.Path.{◌≡◌, refl, sym, ap, subst, ap₂, ◌∙◌}
use mathlib.Core.List.{List, [], ◌∷◌, ◌++◌}
use Prim.Native.Nat.{ℕ, zero, suc, ◌+◌, ◌*◌, ◌-◌, ◌^◌, ◌/◌, ◌%◌, ◌<◌, ◌≤◌}
use native.Mathlib.Omega.{arith}
use native.Mathlib.Decide.{dec_lt}
use native.Mathlib.Nat.{mul-le-mul_right}
use lib.Dec.{ltb→lt}
use lib.ListN.{length, get_or}
use lib.Pow.{pow-add}
use Rattle.refusal.specs.Refusal.{Outcome, answer, refuse}
use Rattle.refusal.proofs.Checks.{Passes, answered, passes}
use Rattle.std.specs.Prelude.{Option, Some, None}
use Rattle.characters.specs.Characters.{lower_digits, hex_value, hex_digit}
use Rattle.characters.proofs.Table.{hex-below, hex-of-digit}
use Rattle.unit.specs.Hex.{HexNumber, some_number, no_number, hex_after, hex_number, hex_checks, read_number, read_hex, hex_text, digit_count}
use Rattle.unit.specs.Shortest.{LowerCase, none, digit, Shortest}
use Rattle.unit.proofs.Digits.{left, left-text, text-last, count-last, count-least, count-within}
use Rattle.unit.proofs.Reading.{read-number}

-- one digit more at the end
number-snoc : (high : ℕ) (cs : List ℕ) (c : ℕ) {n v : ℕ} → hex_after high cs ≡ some_number n → hex_value c ≡ Some v
    → hex_after high (cs ++ c ∷ []) ≡ some_number (n * 16 + v)
unfolding hex_after
number-snoc high [] c {n} {v} e k = let q : high ≡ n = cc in rw (k, hex_after) (ap (λ (x : ℕ). some_number (x * 16 + v)) q)
number-snoc high (x ∷ cs) c {n} {v} e k = go (hex_value x) e (λ u f. number-snoc (high * 16 + u) cs c f k)
  where
    go : (y : Option ℕ) → (elim y as (λ _. HexNumber) [ Some u ↦ hex_after (high * 16 + u) cs | None ↦ no_number ]) ≡ some_number n
        → ((u : ℕ) → hex_after (high * 16 + u) cs ≡ some_number n → hex_after (high * 16 + u) (cs ++ c ∷ []) ≡ some_number (n * 16 + v))
        → (elim y as (λ _. HexNumber) [ Some u ↦ hex_after (high * 16 + u) (cs ++ c ∷ []) | None ↦ no_number ]) ≡ some_number (n * 16 + v)
    go (Some u) e f = f u e
    go None e f = let z : ◌≡◌ {A = ℕ} 0 1 = cc in absurd (omega arith)

lower-snoc : {cs : List ℕ} (n : ℕ) → LowerCase cs → LowerCase (cs ++ hex_digit n ∷ [])
lower-snoc n none = digit n none
lower-snoc n (digit m l) = digit m (lower-snoc n l)

-- what is to be known of a text: lower-case, of that number
record Good (cs : List ℕ) (n : ℕ) : Type 0 where
  lower : LowerCase cs
  value : hex_number cs ≡ some_number n

good-snoc : {cs : List ℕ} (n : ℕ) → Good cs (n / 16) → Good (cs ++ hex_digit n ∷ []) n
good-snoc {cs} n g =
    let whole : n / 16 * 16 + n % 16 ≡ n = omega arith in
    record {
      lower = lower-snoc n g.lower;
      value = number-snoc 0 cs (hex_digit n) g.value (hex-of-digit n) ∙ ap (λ (x : ℕ). some_number x) whole;
    }

text-good : (bound n : ℕ) → n < bound → Good (hex_text n) n
unfolding hex_after
text-good zero n h = absurd (omega arith)
text-good (suc bound) n h = go (dec_lt 0 (n / 16)) (text-good bound (n / 16))
  where
    join : Good (left (n / 16)) (n / 16) → Good (hex_text n) n
    join g = subst (λ (cs : List ℕ). Good cs n) (sym (text-last n)) (good-snoc n g)

    nothing : (q : ℕ) → q ≡ 0 → Good (left q) q
    nothing zero e = record { lower = none; value = refl }
    nothing (suc q) e = absurd (omega arith)

    go : Dec (0 < n / 16) → (n / 16 < bound → Good (hex_text (n / 16)) (n / 16)) → Good (hex_text n) n
    go (yes p) f = join (subst (λ (cs : List ℕ). Good cs (n / 16)) (sym (left-text (n / 16) p)) (f (omega arith)))
    go (no p) f = join (nothing (n / 16) (omega arith))

-- an accepted text passes the checks, and stands for its number
record Accepted (largest : ℕ) (text : List ℕ) (n : ℕ) : Type 0 where
  some : 0 < length text
  value : hex_number text ≡ some_number n

accepted : (largest : ℕ) (text : List ℕ) (n : ℕ) → read_hex largest text ≡ answer n → Accepted largest text n
unfolding read_hex hex_checks
accepted largest text n e = go (hex_number text) refl e
  where
    go : (x : HexNumber) → hex_number text ≡ x → read_number largest text x ≡ answer n → Accepted largest text n
    go (some_number m) q e =
        let p : Passes (hex_checks largest text m) = answered 0 m (hex_checks largest text m) (omega arith) (ap (λ (o : Outcome ℕ). o.number) e) in
        let v : m ≡ n = ap (λ (o : Outcome ℕ). o.value) (sym (passes (refuse 0) (hex_checks largest text m) (answer m) p) ∙ e) in
        record { some = ltb→lt 0 (length text) p.0; value = q ∙ ap (λ (x : ℕ). some_number x) v }
    go no_number q e = absurd (omega (arith, ap (λ (o : Outcome ℕ). o.number) e))

-- a text of some digits is below the power of sixteen of their number
below : (high : ℕ) (cs : List ℕ) {n : ℕ} → hex_after high cs ≡ some_number n → n < (high + 1) * 2 ^ (4 * length cs)
unfolding hex_after
below high [] {n} e = let q : high ≡ n = cc in omega arith
below high (c ∷ cs) {n} e = go (hex_value c) refl e (λ u f. below (high * 16 + u) cs f)
  where
    go : (y : Option ℕ) → hex_value c ≡ y → (elim y as (λ _. HexNumber) [ Some u ↦ hex_after (high * 16 + u) cs | None ↦ no_number ]) ≡ some_number n
        → ((u : ℕ) → hex_after (high * 16 + u) cs ≡ some_number n → n < (high * 16 + u + 1) * 2 ^ (4 * length cs)) → n < (high + 1) * 2 ^ (4 * suc (length cs))
    go (Some u) q e f =
        let k : u < 16 = hex-below c q in
        let s : 4 * suc (length cs) ≡ 4 + 4 * length cs = omega arith in
        let m : (u + 1) * 2 ^ (4 * length cs) ≤ 16 * 2 ^ (4 * length cs) = mul-le-mul_right (2 ^ (4 * length cs)) (omega arith) in
        rw (s, pow-add 2 4 (4 * length cs)) (omega (arith, f u e, m))
    go None q e f = let z : ◌≡◌ {A = ℕ} 0 1 = cc in absurd (omega arith)

-- a digit in front, by its value
after-digit : (high n : ℕ) (cs : List ℕ) → hex_after high (hex_digit n ∷ cs) ≡ hex_after (high * 16 + n % 16) cs
unfolding hex_after
after-digit high n cs = rw (hex-of-digit n, hex_after)

same-digit : (m n : ℕ) → m % 16 ≡ n % 16 → hex_digit m ≡ hex_digit n
unfolding hex_digit
same-digit m n e = ap (λ (v : ℕ). get_or lower_digits v 0) e

-- equally long lower-case texts of one number are one text
same_text : (a b : ℕ) {cs ds : List ℕ} → LowerCase cs → LowerCase ds → length cs ≡ length ds → hex_after a cs ≡ hex_after b ds → (a ≡ b) × (cs ≡ ds)
unfolding hex_after
same_text a b none none l e = (cc, refl)
same_text a b none (digit n q) l e = absurd (omega arith)
same_text a b (digit m p) none l e = absurd (omega arith)
same_text a b (digit m {cs = cs} p) (digit n {cs = ds} q) l e =
    let r = same_text (a * 16 + m % 16) (b * 16 + n % 16) p q (omega arith) (sym (after-digit a m cs) ∙ e ∙ after-digit b n ds) in
    (omega (arith, r.0), ap₂ (λ (x : ℕ) (xs : List ℕ). x ∷ xs) (same-digit m n (omega (arith, r.0))) r.1)

-- the text of a number, and the bounds under which it is read
module _ (largest n : ℕ) (small : n ≤ largest) (wide : largest < 2 ^ 64) where
  pub text-reads : read_hex largest (hex_text n) ≡ answer n
  unfolding digit_count
  text-reads =
      let g : Good (hex_text n) n = text-good (suc n) n (omega arith) in
      sym (read-number largest (hex_text n) g.value (omega (arith, count-last n)) (count-within n (omega arith)) small)

  pub text-shortest : Shortest largest n (hex_text n)
  unfolding digit_count
  text-shortest = record {
    reads = text-reads;
    lower = (text-good (suc n) n (omega arith)).lower;
    fewest = λ other e. fewest other (accepted largest other n e);
  }
    where
      fewest : (other : List ℕ) → Accepted largest other n → digit_count n ≤ length other
      fewest other a =
          let d : length other ≡ suc (length other - 1) = omega (arith, a.some) in
          let b : n < 2 ^ (4 * suc (length other - 1)) = rw (← d) (omega (arith, below 0 other a.value)) in
          omega (arith, count-least (length other - 1) n b)

  -- and there is no other such text
  pub shortest-unique : (text : List ℕ) → Shortest largest n text → text ≡ hex_text n
  shortest-unique text s =
      let t = text-shortest in
      let l : length text ≡ length (hex_text n) = omega (arith, s.fewest (hex_text n) t.reads, t.fewest text s.reads) in
      let a = accepted largest text n s.reads in
      let b = accepted largest (hex_text n) n t.reads in
      (same_text 0 0 s.lower t.lower l (a.value ∙ sym b.value)).1
