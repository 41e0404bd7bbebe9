-- What stands at a place of a block. Assumes nothing.
use mathlib.Core.Path.{◌≡◌, refl, sym, ap, subst}
use mathlib.Core.Bool.{Bool, true, false}
use mathlib.Core.List.{List}
use Prim.Native.Nat.{ℕ, ◌+◌, ◌≤◌}
use native.Mathlib.Omega.{arith}
use lib.ListN.{length}
use Rattle.cells.specs.Cells.{cell_at}
use Rattle.std.specs.Prelude.{Option, Some, None, Ok}
use Rattle.std.specs.Option.{is_some}
use Rattle.tokens.specs.declared.Cursor.{Cursor}
use Rattle.tokens.specs.declared.Step.{Step}
use Rattle.tokens.specs.declared.Step.TheVariants.{BeginNode, EndNode, Property, Nop, End, Fault}
use Rattle.tokens.specs.Steps.{padded, step_at}
use Rattle.tokens.proofs.TokenList.{Is, holds, seen}
use Rattle.lookup.specs.declared.Entry.TheVariants.{Named}
use Rattle.lookup.specs.declared.Span.{Span}
use Rattle.lookup.specs.Parts.{span, fault_of, Misplaced, Stands, named, first_hit}

-- a property lies within its block: a token and two cells, and then its value
pub record Lies (block : List ℕ) (at t v l o : ℕ) : Type 0 where
  pub here : t ≡ at
  pub token : cell_at block t ≡ 3
  pub size : l ≡ cell_at block (t + 4)
  pub offset : o ≡ cell_at block (t + 8)
  pub value : v ≡ t + 12
  pub within : t + 12 + l ≤ length block

property-lies : {block : List ℕ} {at t v l o : ℕ} {c : Cursor} → Is block (length block) at (Property t v l o c) → Lies block at t v l o
unfolding padded
property-lies (holds r e) = record { here = refl; token = e; size = refl; offset = refl; value = refl; within = omega arith }

module _ (block : List ℕ) (at : ℕ) {t v l o : ℕ} {c : Cursor} (e : step_at block (length block) at ≡ Property t v l o c) where
  pub lies : Lies block at t v l o
  lies = property-lies (seen block (length block) at e)

  pub stands-named : (strings : List ℕ) → 0 ≡ fault_of block strings t o → Stands block strings at (Ok (Named o (span t (t + 12 + l)) c))
  stands-named strings f =
      let q : v + l ≡ t + 12 + l = ap (λ (x : ℕ). x + l) lies.value in
      subst (λ (to : ℕ). Stands block strings at (Ok (Named o (span t to) c))) q (named e (sym f))

-- what is neither a property nor a NOP has no place in a block
pub no-place : (x : Step) → ((t v l o : ℕ) (c : Cursor) → x ≡ Property t v l o c → ⊥) → ((t : ℕ) (c : Cursor) → x ≡ Nop t c → ⊥) → Misplaced x
no-place (BeginNode t c) f g = tt
no-place (EndNode t c) f g = tt
no-place (Property t v l o c) f g = f t v l o c refl
no-place (Nop t c) f g = g t c refl
no-place (End t) f g = tt
no-place (Fault t) f g = tt

-- the hit, by the test of the name; there may be one already
module _ (hit : Option Span) (same : Bool) (s : Span) where
  pub hit-here : is_some hit ≡ false → true ≡ same → Some s ≡ first_hit hit same s.from s.to
  hit-here e k = go hit e
    where
      go : (h : Option Span) → is_some h ≡ false → Some s ≡ first_hit h same s.from s.to
      go (Some t) e = cc
      go None e = rw (← k)

  pub hit_other : false ≡ same → hit ≡ first_hit hit same s.from s.to
  hit_other k = go hit
    where
      go : (h : Option Span) → h ≡ first_hit h same s.from s.to
      go (Some t) = refl
      go None = rw (← k)

  pub hit_stays : is_some hit ≡ true → hit ≡ first_hit hit same s.from s.to
  hit_stays e = go hit e
    where
      go : (h : Option Span) → is_some h ≡ true → h ≡ first_hit h same s.from s.to
      go (Some t) e = refl
      go None e = cc
