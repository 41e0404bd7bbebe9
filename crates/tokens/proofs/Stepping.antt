-- What the cursor's step is, for each kind of token. Assumes nothing.
use mathlib.Core.Path.{◌≡◌}
use mathlib.Core.List.{List}
use Prim.Native.Nat.{ℕ, ◌+◌, ◌<◌, ◌≤◌}
use borrow.Author.Tests.{le-leb, lt-leb, ne_eqb}
use Rattle.cells.specs.Cells.{cell_at}
use Rattle.tokens.specs.declared.Step.TheVariants.{BeginNode, EndNode, Property, Nop, End, Fault}
use Rattle.tokens.specs.Steps.{cursor, padded, property_at, step_at}

module _ (s : List ℕ) (end at : ℕ) where
  pub step-none : end < at + 4 → step_at s end at ≡ Fault end
  unfolding step_at
  step-none h = rw (lt-leb (at + 4) end h)

  module _ (room : at + 4 ≤ end) where
    pub step-begin : cell_at s at ≡ 1 → step_at s end at ≡ BeginNode at (cursor (at + 4))
    unfolding step_at
    step-begin e = rw (le-leb (at + 4) end room, e)

    pub step-end-node : cell_at s at ≡ 2 → step_at s end at ≡ EndNode at (cursor (at + 4))
    unfolding step_at
    step-end-node e = rw (le-leb (at + 4) end room, e)

    pub step-property : cell_at s at ≡ 3 → step_at s end at ≡ property_at s end at
    unfolding step_at
    step-property e = rw (le-leb (at + 4) end room, e)

    pub step-nop : cell_at s at ≡ 4 → step_at s end at ≡ Nop at (cursor (at + 4))
    unfolding step_at
    step-nop e = rw (le-leb (at + 4) end room, e)

    pub step_end : cell_at s at ≡ 9 → step_at s end at ≡ End at
    unfolding step_at
    step_end e = rw (le-leb (at + 4) end room, e)

    pub step-unknown : (cell_at s at ≡ 1 → ⊥) → (cell_at s at ≡ 2 → ⊥) → (cell_at s at ≡ 3 → ⊥) → (cell_at s at ≡ 4 → ⊥) → (cell_at s at ≡ 9 → ⊥) → step_at s end at ≡ Fault at
    unfolding step_at
    step-unknown a b c d e =
        rw (
          le-leb (at + 4) end room,
          ne_eqb (cell_at s at) 1 a,
          ne_eqb (cell_at s at) 2 b,
          ne_eqb (cell_at s at) 3 c,
          ne_eqb (cell_at s at) 4 d,
          ne_eqb (cell_at s at) 9 e,
        )

  pub property-short : end < at + 12 → property_at s end at ≡ Fault at
  unfolding property_at
  property-short h = rw (lt-leb (at + 12) end h)

  pub property-cut : at + 12 ≤ end → end < at + 12 + padded (cell_at s (at + 4)) → property_at s end at ≡ Fault at
  unfolding property_at
  property-cut h k = rw (le-leb (at + 12) end h, lt-leb (at + 12 + padded (cell_at s (at + 4))) end k)

  pub property-whole : at + 12 ≤ end → at + 12 + padded (cell_at s (at + 4)) ≤ end → property_at s end at ≡ Property at (at + 12) (cell_at s (at + 4)) (cell_at s (at + 8)) (cursor (at + 12 + padded (cell_at s (at + 4))))
  unfolding property_at
  property-whole h k = rw (le-leb (at + 12) end h, le-leb (at + 12 + padded (cell_at s (at + 4))) end k)
