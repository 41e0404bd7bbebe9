-- Laws of bytes that are copied into a buffer, a byte at a time. Assumes nothing.
use mathlib.Core.Path.{◌≡◌, sym, ap, ◌∙◌}
use mathlib.Core.List.{List, ◌++◌, append_assoc}
use Prim.Native.Nat.{ℕ, zero, suc, ◌+◌, ◌-◌, ◌<◌, ◌≤◌}
use native.Mathlib.Omega.{arith}
use native.Mathlib.Numerals.{add-one}
use lib.ListN.{get_or, length, take, drop, set, replicate}
use lib.Seq.{take_all, paste, paste-zero, paste-suc, length-paste}
use Rattle.cells.specs.Buffer.{written}
use Rattle.cells.specs.Rows.{padded}

-- `i` bytes of `text` are in a buffer, from place `at` on
pub record Copying (old : List ℕ) (at : ℕ) (text buffer : List ℕ) (i : ℕ) : Type 0 where
  pub within : i ≤ length text
  pub fits : at + length text ≤ length old
  pub holds : buffer ≡ paste old at text i

pub copy-begins : (old : List ℕ) (at : ℕ) (text : List ℕ) → at + length text ≤ length old → Copying old at text old 0
copy-begins old at text h = record { within = omega arith; fits = h; holds = paste-zero old at text }

module _ {old : List ℕ} {at : ℕ} {text buffer : List ℕ} {i : ℕ} (w : Copying old at text buffer i) where
  pub copy-length : length buffer ≡ length old
  copy-length = ap length w.holds ∙ length-paste old at text i (omega (arith, w.within, w.fits)) w.within

  pub copy_more : i < length text → Copying old at text (set buffer (at + i) (get_or text i 0)) (i + 1)
  copy_more h = record {
    within = omega arith;
    fits = w.fits;
    holds =
        ap (λ (l : List ℕ). set l (at + i) (get_or text i 0)) w.holds
        ∙ paste-suc old at text i 0 (omega (arith, w.fits)) h
        ∙ ap (paste old at text) (sym (add-one i));
  }

  pub copy-whole : length text ≤ i → buffer ≡ written old at text
  unfolding written
  copy-whole h =
      let e : i ≡ length text = omega (arith, w.within) in
      w.holds
      ∙ ap (λ (n : ℕ). take at old ++ take n text ++ drop (at + n) old) e
      ∙ append_assoc (take at old) (take (length text) text) (drop (at + length text) old)
      ∙ ap (λ (l : List ℕ). take at old ++ (l ++ drop (at + length text) old)) (take_all (length text) text (omega arith))

-- bytes that are copied into the front of a row of zeros
left : {A : Type 0} (z : A) (n k : ℕ) → drop k (replicate n z) ≡ replicate (n - k) z
left z n zero = let e : n - 0 ≡ n = omega arith in rw e
left z zero (suc k) = let e : 0 - suc k ≡ 0 = omega arith in rw e
left z (suc n) (suc k) = let e : suc n - suc k ≡ n - k = omega arith in rw e (left z n k)

pub written-padded : (n : ℕ) (bytes : List ℕ) → written (replicate n 0) 0 bytes ≡ padded n 0 bytes
unfolding written
written-padded n bytes = let e : 0 + length bytes ≡ length bytes = omega arith in rw (e, left zero n (length bytes))
