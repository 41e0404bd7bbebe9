-- Demand 2, of unit text: "A CPU number written as text reads back as itself; a text read and written again is the same number in its
-- shortest lower-case form." Assumes nothing.
use mathlib.Core.Path.{◌≡◌, sym, ap, subst, ◌∙◌}
use mathlib.Core.List.{List}
use Prim.Native.Nat.{ℕ, ◌+◌, ◌-◌, ◌^◌, ◌<◌, ◌≤◌}
use native.Mathlib.Omega.{arith}
use lib.Dec.{leb→le}
use lib.ListN.{length, drop}
use lib.Seq.{take-append_seam}
use Rattle.refusal.specs.Refusal.{Outcome, answer, refuse}
use Rattle.refusal.specs.Checks.{Check}
use Rattle.refusal.proofs.Checks.{Passes, answered, passes, tests}
use Rattle.cells.specs.Buffer.{written}
use Rattle.unit.specs.Hex.{hex_text, digit_count, write_checks, write_hex}
use Rattle.unit.specs.Shortest.{Shortest}
use Rattle.unit.specs.Unit.{read_unit, write_unit, after_unit, text_written}
use Rattle.unit.proofs.Digits.{count-least, after-written}
use Rattle.unit.proofs.Reading.{at_most}
use Rattle.unit.proofs.RoundTrip.{text-reads, text-shortest, shortest-unique}

text-is : (n : ℕ) (old : List ℕ) → (write_unit n (length old)).number ≡ 0 → text_written n old ≡ hex_text n
unfolding write_unit write_hex write_checks after_unit written digit_count
text-is n old e =
    let cs : List (Check ℕ) = write_checks n 0 (length old) in
    let p : Passes cs = answered 0 (digit_count n) cs (omega arith) e in
    let l : 0 + digit_count n ≤ length old = leb→le (0 + digit_count n) (length old) p.0 in
    let v : (write_unit n (length old)).value ≡ digit_count n = ap (λ (o : Outcome ℕ). o.value) (passes (refuse 0) cs (answer (digit_count n)) p) in
    rw (v, ← after-written n 0 old l) (take-append_seam (hex_text n) (drop (0 + length (hex_text n)) old))

-- "A CPU number written as text reads back as itself"
pub number-text-number : (n : ℕ) (old : List ℕ) → n < 2 ^ 32 → (write_unit n (length old)).number ≡ 0 → read_unit (text_written n old) ≡ answer n
unfolding read_unit
number-text-number n old h e =
    subst (λ (t : List ℕ). read_unit t ≡ answer n) (sym (text-is n old e)) (text-reads (2 ^ 32 - 1) n (omega arith) (omega arith))

-- and eight bytes are always enough to write it
pub eight-bytes : (n : ℕ) (old : List ℕ) → n < 2 ^ 32 → 8 ≤ length old → (write_unit n (length old)).number ≡ 0
unfolding write_unit write_hex write_checks
eight-bytes n old h l =
    let c : digit_count n ≤ 8 = count-least 7 n h in
    ap (λ (o : Outcome ℕ). o.number) (passes (refuse 0) (write_checks n 0 (length old)) (answer (digit_count n)) (omega (arith, tests), tt))

-- "a text read and written again is the same number in its shortest lower-case form"
pub text-number-text : (text old : List ℕ) (n : ℕ) → read_unit text ≡ answer n → (write_unit n (length old)).number ≡ 0 → Shortest (2 ^ 32 - 1) n (text_written n old)
unfolding read_unit
text-number-text text old n r e =
    let m : n ≤ 2 ^ 32 - 1 = omega (arith, at_most (2 ^ 32 - 1) text, ap (λ (o : Outcome ℕ). o.value) r) in
    subst (Shortest (2 ^ 32 - 1) n) (sym (text-is n old e)) (text-shortest (2 ^ 32 - 1) n m (omega arith))

-- there is one such form
pub one-shortest : (n : ℕ) (text other : List ℕ) → n < 2 ^ 32 → Shortest (2 ^ 32 - 1) n text → Shortest (2 ^ 32 - 1) n other → text ≡ other
one-shortest n text other h s o =
    shortest-unique (2 ^ 32 - 1) n (omega arith) (omega arith) text s ∙ sym (shortest-unique (2 ^ 32 - 1) n (omega arith) (omega arith) other o)
