-- A property looked up in two blocks, by what each reads as. Assumes nothing.
use Rattle.std.specs.Prelude.{Option, Some, None, Result, Ok, Err}
use mathlib.Core.Path.{◌≡◌, refl, sym, ap₂, subst}
use mathlib.Core.List.{List, [], ◌∷◌}
use Prim.Native.Nat.{ℕ}
use Rattle.refusal.specs.Refusal.{number_of}
use Rattle.refusal.specs.declared.Refusal.{Refusal}
use Rattle.refusal.specs.declared.Refusal.TheVariants.{NotFound}
use Rattle.lookup.specs.declared.Found.{Found}
use Rattle.lookup.specs.declared.Found.TheVariants.{InCpu, InParent}
use Rattle.lookup.specs.declared.Span.{Span}
use Rattle.lookup.specs.Lookup.{Held, Block, refused, block_of, held_as, or_parent, in_either, lookup, not_found, reason_of, reason, looked_up, looked_outcome}
use Rattle.lookup.specs.Parts.{hit_of, Whole}

abbrev Looks : List ℕ → List ℕ → List ℕ → List ℕ → Result Found Refusal → Type 0
Looks cpu parent strings name r = looked_outcome r ≡ looked_up cpu parent strings name

-- by the hits in the two blocks
abbrev pub first_of : Option Span → Option Span → Result Found Refusal
first_of (Some s) other = Ok (InCpu s.from s.to)
first_of None (Some s) = Ok (InParent s.from s.to)
first_of None None = Err NotFound

-- what the two blocks say, by their reading
module _ (cpu parent strings name : List ℕ) {b p : Block} (own : block_of cpu strings ≡ b) (other : block_of parent strings ≡ p) where
  looks : (r : Result Found Refusal) → (looked_outcome r).value ≡ in_either name b p → (looked_outcome r).number ≡ reason_of (in_either name b p) b p → Looks cpu parent strings name r
  unfolding lookup reason
  looks r f k =
      let place : (looked_outcome r).value ≡ lookup cpu parent strings name = rw (own, other) f in
      let why : (looked_outcome r).number ≡ reason cpu parent strings name = rw (own, other) k in
      λ i. record { number = why i; value = place i }

module _ (cpu parent strings name : List ℕ) where
  pub own-refused : (x : Refusal) → block_of cpu strings ≡ refused (number_of x) → Looks cpu parent strings name (Err x)
  own-refused x g = looks cpu parent strings name g refl (Err x) refl refl

  module _ {mine : Option Span} (v : Whole name (block_of cpu strings) mine) where
    pub parent-refused : (x : Refusal) → block_of parent strings ≡ refused (number_of x) → Looks cpu parent strings name (Err x)
    parent-refused x g = looks cpu parent strings name v.all g (Err x) refl refl

    pub both_read : {theirs : Option Span} → Whole name (block_of parent strings) theirs → Looks cpu parent strings name (first_of mine theirs)
    both_read w =
        subst (Looks cpu parent strings name) (sym (ap₂ first_of v.first w.first))
        (looks cpu parent strings name v.all w.all (first_of (hit_of (held_as name v.held)) (hit_of (held_as name w.held)))
        (places (held_as name v.held) (held_as name w.held))
        (reasons (held_as name v.held) (held_as name w.held)))
      where
        places : (ps qs : List Held) → (looked_outcome (first_of (hit_of ps) (hit_of qs))).value ≡ or_parent name ps qs
        places (p ∷ ps) qs = refl
        places [] (q ∷ qs) = refl
        places [] [] = refl

        reasons : (ps qs : List Held) → (looked_outcome (first_of (hit_of ps) (hit_of qs))).number ≡ not_found (or_parent name ps qs)
        reasons (p ∷ ps) qs = refl
        reasons [] (q ∷ qs) = refl
        reasons [] [] = refl
