-- A look-up finds the property where document 01 says, or nothing, for the reason that it says. Assumes nothing.
use Prim.Native.Nat.{ℕ}
use mathlib.Core.Path.{◌≡◌, refl, ap, ◌∙◌}
use mathlib.Core.Bool.{Bool, true, false, ◌||◌}
use mathlib.Core.List.{List, [], ◌∷◌}
use Rattle.strings.specs.Strings.{ended}
use Rattle.names.specs.Names.{same_text}
use Rattle.lookup.specs.Lookup.{Held, Block, properties, refused, block_of, held_as, or_parent, in_either, lookup, not_found, reason_of, reason}
use Rattle.lookup.specs.LooksUp.{is_named, LooksUp, cpu_has, parent_has, neither_has, cpu_faulty, parent_faulty}
use Rattle.lookup.proofs.ReturnedPart.{Part, read-part}

-- there is a property of a name exactly where one has it
abbrev is_some : List Held → Bool
is_some [] = false
is_some (h ∷ hs) = true

named-held : (name : List ℕ) (hs : List Held) → is_named name hs ≡ is_some (held_as name hs)
unfolding is_named held_as
named-held name [] = refl
named-held name (h ∷ hs) = go (same_text h.name (ended name)) (named-held name hs)
  where
    go : (b : Bool) → is_named name hs ≡ is_some (held_as name hs)
        → b || is_named name hs ≡ is_some (elim b as (λ _. List Held) [ true ↦ h ∷ [] | false ↦ held_as name hs ])
    go true e = refl
    go false e = e

module _ (cpu parent strings name : List ℕ) where
  -- both blocks read as properties
  module _ {ps qs : List Held} (e : block_of cpu strings ≡ properties ps) (f : block_of parent strings ≡ properties qs) where
    by-held : (hs ks : List Held) → held_as name ps ≡ hs → held_as name qs ≡ ks → Part cpu strings name hs → Part parent strings name ks
        → LooksUp cpu parent strings name (or_parent name hs ks) (not_found (or_parent name hs ks))
    by-held (h ∷ hs) ks a b p q = cpu_has e f (named-held name ps ∙ ap is_some a) p
    by-held [] (k ∷ ks) a b p q = parent_has e f (named-held name ps ∙ ap is_some a) (named-held name qs ∙ ap is_some b) q
    by-held [] [] a b p q = neither_has e f (named-held name ps ∙ ap is_some a) (named-held name qs ∙ ap is_some b)

  by_blocks : (b p : Block) → block_of cpu strings ≡ b → block_of parent strings ≡ p → LooksUp cpu parent strings name (in_either name b p) (reason_of (in_either name b p) b p)
  by_blocks (properties ps) (properties qs) e f =
      by-held e f (held_as name ps) (held_as name qs) refl refl (read-part cpu strings name e (held_as name ps) refl) (read-part parent strings name f (held_as name qs) refl)
  by_blocks (properties ps) (refused n) e f = parent_faulty e f
  by_blocks (refused n) p e f = cpu_faulty e

  pub looks-up : LooksUp cpu parent strings name (lookup cpu parent strings name) (reason cpu parent strings name)
  unfolding lookup reason
  looks-up = by_blocks (block_of cpu strings) (block_of parent strings) refl refl
