-- The bytes of a part of a block, by their places in it. Assumes nothing.
use mathlib.Core.Path.{◌≡◌, ap, ◌∙◌}
use mathlib.Core.List.{List}
use Prim.Native.Nat.{ℕ, ◌+◌, ◌-◌, ◌<◌}
use native.Mathlib.Omega.{arith}
use lib.ListN.{drop, get_or}
use lib.Seq.{get_or-take, get_or-drop}
use Rattle.std.specs.List.{slice_range}

pub part-byte : (s : List ℕ) {part : List ℕ} (from stop n : ℕ) → part ≡ slice_range s from stop → from + n < stop → get_or part n 0 ≡ get_or s (from + n) 0
part-byte s from stop n e h =
    ap (λ (l : List ℕ). get_or l n 0) e ∙ get_or-take (stop - from) (drop from s) n 0 (omega arith) ∙ get_or-drop from s n 0
