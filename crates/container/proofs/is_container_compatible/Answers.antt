-- `container::is_container_compatible` meets its contract. Assumes nothing.
use mathlib.Core.Path.{◌≡◌, refl, ap, ◌∙◌}
use Prim.Native.Nat.{ℕ}
use Rattle.std.proofs.Common.{Option, Some, None}
use Rattle.std.specs.Option.{is_some}
use Rattle.positions.specs.Below.{is_somewhere}
use Rattle.container.specs.Container.{is_container_compatible}
use Rattle.container.proofs.is_container_compatible.Goals as goal

same : (o : Option ℕ) → is_some o ≡ is_somewhere o
same None = refl
same (Some i) = refl

pub returns : goal.returns
unfolding is_container_compatible
returns c = c.is_some.ensures ∙ ap is_some c.string_place.ensures ∙ same _
