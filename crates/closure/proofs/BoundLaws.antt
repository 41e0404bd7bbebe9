-- The graph of the positions whose dependencies are all among the first n; the others have none in it. Assumes nothing.
use Prim.Native.Nat.{ℕ, ◌<◌}
use mathlib.Core.Path.{◌≡◌, refl}
use mathlib.Core.Bool.{Bool, true, false, cond}
use mathlib.Core.List.{List}
use native.Mathlib.Omega.{arith}
use borrow.Author.Tests.{ltb-true}
use lib.Dec.{ltb}
use Rattle.positions.proofs.BelowLaws.{every-at}
use Rattle.tables.specs.Slots.{slot_number, slot_of}
use Rattle.closure.specs.Graph.{Below}
use Rattle.closure.specs.Slots.{slots_below}

module _ (slots counts : List ℕ) (n : ℕ) where
  -- how many dependencies a position has; none where one of them is not among the first n
  abbrev pub number_within : ℕ → ℕ
  number_within i = cond (slots_below slots counts n i) (slot_number counts i) 0

  pub number-within : (i : ℕ) → slots_below slots counts n i ≡ true → number_within i ≡ slot_number counts i
  number-within i e = rw e

  pub slot-within : (i : ℕ) → slots_below slots counts n i ≡ true → (j : ℕ) → j < slot_number counts i → slot_of slots i j < n
  unfolding slots_below
  slot-within i e j h = ltb-true (slot_of slots i j) n (every-at (slot_number counts i) (λ j. ltb (slot_of slots i j) n) e j h)

  pub graph-within : Below n number_within (slot_of slots)
  graph-within = record { below = λ i h j l. go i j l (slots_below slots counts n i) refl }
    where
      go : (i j : ℕ) → j < number_within i → (b : Bool) → slots_below slots counts n i ≡ b → slot_of slots i j < n
      go i j l true e = slot-within i e j (rw e at l)
      go i j l false e = let z : number_within i ≡ 0 = rw e in absurd (omega arith)
