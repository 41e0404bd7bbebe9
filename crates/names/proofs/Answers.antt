-- Equal outcomes are equal answers, so that the promises decide their answers. Assumes nothing.
use mathlib.Core.Path.{◌≡◌, refl, sym, ap}
use Prim.Native.Nat.{ℕ}
use Rattle.refusal.specs.Refusal.{Outcome}
use Rattle.std.proofs.Common.{Option, Some, None}
use Rattle.names.specs.Names.{name_outcome}
use Rattle.names.proofs.NameLaws.{refused-not-answered}

pub same_name : (a b : Option ℕ) → name_outcome a ≡ name_outcome b → a ≡ b
same_name (Some m) (Some n) e = ap Some (ap (λ (o : Outcome ℕ). o.value) e)
same_name (Some m) None e = absurd (refused-not-answered (sym e))
same_name None (Some n) e = absurd (refused-not-answered e)
same_name None None e = refl
