-- The table's rule: antt computes the 256 entries of the rule once and compares them with the table (`entries/Answers.antt`). Assumes nothing.
use mathlib.Core.Path.{◌≡◌, refl, sym, ap, subst, ◌∙◌}
use mathlib.Core.Bool.{Bool, true, false, cond}
use mathlib.Core.List.{List, [], ◌∷◌}
use Prim.Native.Nat.{ℕ, zero, suc, ◌+◌, ◌*◌, ◌<◌, ◌≤◌, ◌/◌, ◌%◌}
use native.Mathlib.Nat.{add-zero, zero-add, le_of_suc-le-suc, not-suc-le-zero}
use native.Mathlib.Omega.{arith}
use lib.Dec.{eqb, ltb}
use borrow.Author.Tests.{lt-ltb}
use lib.ListN.{length, get_or}
use Rattle.std.proofs.Common.{Option, Some, None}
use Rattle.std.specs.Bool.{then_some}
use Rattle.std.specs.Option.{option_or}
use Rattle.characters.specs.Characters.{lower_digits, upper_digits, digit_value, hex_value, hex_digit, hex_entry, one_if, entry_of, is_node_character, is_property_character, run, character_table, is_node_entry, is_property_entry}

run_at : (f : ℕ → ℕ) (n i k : ℕ) → k < n → get_or (run f n i) k 0 ≡ f (i + k)
unfolding run
run_at f zero i k h = absurd (not-suc-le-zero h)
run_at f (suc n) i zero h = rw add-zero
run_at f (suc n) i (suc k) h = run_at f n (suc i) k (le_of_suc-le-suc h) ∙ ap f (omega arith)

-- an element of a table that is such a run
in-run : (f : ℕ → ℕ) (n k : ℕ) → k < n → get_or (run f n 0) k 0 ≡ f k
in-run f n k h = run_at f n 0 k h ∙ ap f (zero-add k)

-- two rules that antt computes to be the same at n numbers
pub agree : (f g : ℕ → ℕ) (n : ℕ) → run f n 0 ≡ run g n 0 → (k : ℕ) → k < n → f k ≡ g k
agree f g n e k h = sym (in-run f n k h) ∙ ap (λ (l : List ℕ). get_or l k 0) e ∙ in-run g n k h

-- a value is below 16
abbrev Small : Option ℕ → Type 0
Small (Some v) = v < 16
Small None = Unit {0}

values-small : (v : ℕ) (ds : List ℕ) (b : ℕ) → v + length ds ≤ 16 → Small (digit_value v ds b)
values-small v [] b h = tt
values-small v (d ∷ ds) b h = go (eqb b d) (values-small (suc v) ds b (omega arith))
  where
    go : (e : Bool) → Small (digit_value (suc v) ds b) → Small (cond e (Some v) (digit_value (suc v) ds b))
    go true s = omega arith
    go false s = s

small-else : (x y : Option ℕ) → Small x → Small y → Small (option_or x y)
small-else (Some v) y s t = s
small-else None y s t = t

small : (b : ℕ) → Small (hex_value b)
unfolding hex_value
small b =
    small-else (digit_value 0 lower_digits b) (digit_value 0 upper_digits b) (values-small 0 lower_digits b (omega arith)) (values-small 0 upper_digits b (omega arith))

pub hex-below : (b : ℕ) {v : ℕ} → hex_value b ≡ Some v → v < 16
hex-below b e = subst Small e (small b)

-- a value by the low bits of its entry
entry-most : (x : Option ℕ) → Small x → hex_entry x ≤ 16
entry-most (Some v) s = omega (arith, s)
entry-most None s = omega arith

entry-digit : (x : Option ℕ) {v : ℕ} → hex_entry x ≡ v → v < 16 → Some v ≡ x
entry-digit (Some u) e h = ap (λ (k : ℕ). Some k) (sym e)
entry-digit None e h = absurd (omega arith)

told : (x : Option ℕ) → Small x → then_some (ltb (hex_entry x) 16) (hex_entry x) ≡ x
told (Some v) s = rw (lt-ltb v 16 s)
told None s = refl

-- the digit of a number has the value of its last four bits
pub hex-of-digit : (n : ℕ) → hex_value (hex_digit n) ≡ Some (n % 16)
unfolding run hex_value hex_digit
hex-of-digit n =
    let e = agree (λ (k : ℕ). hex_entry (hex_value (get_or lower_digits k 0))) (λ (k : ℕ). k) 16 refl (n % 16) (omega arith) in
    sym (entry-digit (hex_value (hex_digit n)) e (omega arith))

-- the parts of an entry
parts : (h : ℕ) (n p : Bool) → h ≤ 16 → let e = h + 32 * one_if n + 64 * one_if p in (e % 32 ≡ h) × (e / 32 % 2 ≡ one_if n) × (e / 64 ≡ one_if p)
parts h true true l = omega arith
parts h true false l = omega arith
parts h false true l = omega arith
parts h false false l = omega arith

is_one : (b : Bool) → eqb (one_if b) 1 ≡ b
is_one true = refl
is_one false = refl

module _ (b : ℕ) where
  entry-hex : entry_of b % 32 ≡ hex_entry (hex_value b)
  unfolding entry_of
  entry-hex = (parts (hex_entry (hex_value b)) (is_node_character b) (is_property_character b) (entry-most (hex_value b) (small b))).0

  -- the value that an entry says
  pub entry-value : {x : ℕ} → x ≡ entry_of b → then_some (ltb (x % 32) 16) (x % 32) ≡ hex_value b
  entry-value e =
      ap (λ (k : ℕ). then_some (ltb (k % 32) 16) (k % 32)) e
      ∙ ap (λ (k : ℕ). then_some (ltb k 16) k) entry-hex
      ∙ told (hex_value b) (small b)

  entry-node : is_node_entry (entry_of b) ≡ is_node_character b
  unfolding entry_of
  entry-node = rw (parts (hex_entry (hex_value b)) (is_node_character b) (is_property_character b) (entry-most (hex_value b) (small b))).1 (is_one (is_node_character b))

  entry-property : is_property_entry (entry_of b) ≡ is_property_character b
  unfolding entry_of
  entry-property = rw (parts (hex_entry (hex_value b)) (is_node_character b) (is_property_character b) (entry-most (hex_value b) (small b))).2 (is_one (is_property_character b))

-- the entry and the class of a byte that is looked up in the table
module _ {b : ℕ} (h : b < 256) {t : List ℕ} (e : t ≡ character_table) where
  pub found : get_or t b 0 ≡ entry_of b
  unfolding character_table
  found = ap (λ (l : List ℕ). get_or l b 0) e ∙ in-run entry_of 256 b h

  pub node-class : {r : Bool} → r ≡ is_node_entry (get_or t b 0) → is_node_character b ≡ r
  node-class k = sym (k ∙ ap is_node_entry found ∙ entry-node b)

  pub property-class : {r : Bool} → r ≡ is_property_entry (get_or t b 0) → is_property_character b ≡ r
  property-class k = sym (k ∙ ap is_property_entry found ∙ entry-property b)
