-- The digit of a number, as the code makes it. Assumes nothing.
use Prim.Native.Nat.{ℕ, ◌+◌, ◌-◌, ◌%◌, ◌<◌, ◌≤◌}
use mathlib.Core.Path.{◌≡◌, refl, ap, ◌∙◌}
use native.Mathlib.Omega.{arith}
use lib.ListN.{get_or}
use Rattle.characters.specs.Characters.{lower_digits, hex_digit, run}
use Rattle.characters.proofs.Table.{agree}

abbrev digit_at : ℕ → ℕ
digit_at v = get_or lower_digits v 0

pub digit_low : (n : ℕ) → n % 16 < 10 → 48 + n % 16 ≡ hex_digit n
unfolding run hex_digit
digit_low n h = agree (λ (k : ℕ). 48 + k) digit_at 10 refl (n % 16) h

pub digit-high : (n : ℕ) → 10 ≤ n % 16 → 87 + n % 16 ≡ hex_digit n
unfolding run hex_digit
digit-high n l =
    let e : 87 + n % 16 ≡ 97 + (n % 16 - 10) = omega arith in
    let f : 10 + (n % 16 - 10) ≡ n % 16 = omega arith in
    e ∙ agree (λ (k : ℕ). 97 + k) (λ (k : ℕ). digit_at (10 + k)) 6 refl (n % 16 - 10) (omega arith) ∙ ap digit_at f
