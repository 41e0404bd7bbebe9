-- A string that stands at a place is read there. Assumes nothing.
use mathlib.Core.Path.{◌≡◌, refl}
use mathlib.Core.List.{List, [], ◌∷◌, ◌++◌, append_assoc}
use Prim.Native.Nat.{ℕ, ◌+◌, ◌-◌, ◌<◌}
use native.Mathlib.Omega.{arith}
use borrow.Author.Tests.{ne_eqb}
use lib.ListN.{length, take, drop, length-append}
use lib.Seq.{take-add}
use Rattle.cells.specs.Bytes.{Each, Stands}
use Rattle.stringlist.specs.StringList.{NotZero}
use Rattle.strings.specs.Strings.{ended, text_of, text_at}

pub text-first : (name rest : List ℕ) → Each NotZero name → text_of (name ++ 0 ∷ rest) ≡ ended name
unfolding text_of
text-first [] rest h = refl
text-first (b ∷ name) rest h = rw (ne_eqb b 0 h.0, text_of, text-first name rest h.1)

pub stands-text : (s : List ℕ) (from stop : ℕ) (name : List ℕ) → Each NotZero name → Stands s from (name ++ 0 ∷ []) → from + length name < stop → text_at s from stop ≡ ended name
unfolding Stands text_at
stands-text s from stop name h w r =
    let l : List ℕ = drop from s in
    let n : ℕ = length (name ++ 0 ∷ []) in
    let e : stop - from ≡ n + (stop - from - n) = omega (arith, length-append name (0 ∷ [])) in
    rw (e, take-add n (stop - from - n) l, w, append_assoc name (0 ∷ []))
    (text-first name (take (stop - from - n) (drop n l)) h)
