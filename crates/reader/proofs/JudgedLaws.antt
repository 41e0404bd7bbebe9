-- What some checks find, by what their parts find. Assumes nothing.
use mathlib.Core.Path.{◌≡◌, refl}
use mathlib.Core.Bool.{Bool, true, false}
use mathlib.Core.List.{List, [], ◌∷◌, ◌++◌}
use Prim.Native.Nat.{ℕ, zero, suc, ◌<◌}
use native.Mathlib.Omega.{arith}
use Rattle.refusal.specs.Refusal.{Fault, fault}
use Rattle.refusal.specs.Checks.{Check, check}
use Rattle.reading.proofs.CheckLaws.{hold-both, fail-left, fail-right, fail-here}
use Rattle.feature.specs.Feature.{first_of}
use Rattle.reader.specs.Parts.{Judged}

-- one check
pub judged-check : (b : Bool) (k p : ℕ) {n : ℕ} → 0 < k → (b ≡ true → n ≡ 0) → (b ≡ false → n ≡ k) → Judged (check b (fault k p) ∷ []) n p
judged-check true k p l good bad = record { hold = λ z. (refl, tt); fail = λ z. absurd (z (good refl)) }
judged-check false k p {n} l good bad =
    let e : n ≡ k = bad refl in
    record { hold = λ z. absurd (omega arith); fail = λ z. rw e (fail-here k p refl) }

-- checks behind others
pub judged-both : (cs ds : List (Check Fault)) {m n p : ℕ} → Judged cs m p → (m ≡ 0 → Judged ds n p) → Judged (cs ++ ds) (first_of m n) p
judged-both cs ds {m = zero} j k = record {
  hold = λ z. hold-both cs ds (j.hold refl) ((k refl).hold z);
  fail = λ z. fail-right cs ds (j.hold refl) ((k refl).fail z);
}
judged-both cs ds {m = suc m} j k = record { hold = λ z. absurd (omega arith); fail = λ z. fail-left cs ds (j.fail z) }
