-- `container::is_container_type` meets its contract. Assumes nothing.
use mathlib.Core.Path.{◌≡◌, sym, ◌∙◌}
use mathlib.Core.Bool.{true, false}
use Rattle.characters.specs.Characters.{bytes}
use Rattle.stringlist.specs.StringList.{is_only_string}
use Rattle.container.specs.Container.{is_container_type}
use Rattle.container.proofs.is_container_type.Goals as goal

pub returns-then-is_only_string : goal.returns-then-is_only_string
unfolding is_container_type
returns-then-is_only_string c =
    let short : is_only_string c.args.value.now (bytes "cpu-features") ≡ true = sym c.is_only_string.ensures ∙ c.if-is_only_string.true in
    rw short c.if-is_only_string.true

pub returns-else-is_only_string : goal.returns-else-is_only_string
unfolding is_container_type
returns-else-is_only_string c =
    let short : is_only_string c.args.value.now (bytes "cpu-features") ≡ false = sym c.is_only_string.ensures ∙ c.if-is_only_string.false in
    rw short c.is_only_string-else-is_only_string.ensures
