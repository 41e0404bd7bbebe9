-- The tests of a container's strings hold exactly where the strings are a container's. Assumes nothing.
use Prim.Native.Nat.{ℕ}
use native.Mathlib.Omega.{arith}
use mathlib.Core.Path.{◌≡◌, refl, sym, subst}
use mathlib.Core.Bool.{Bool, true, false, ◌||◌, false≢true}
use mathlib.Core.List.{List, [], ◌∷◌, ◌++◌}
use mathlib.Core.Logic.{◌↔◌}
use Rattle.cells.specs.Bytes.{Each}
use Rattle.characters.specs.Characters.{bytes}
use Rattle.std.proofs.Common.{Option}
use Rattle.positions.specs.Below.{is_somewhere}
use Rattle.stringlist.specs.StringList.{NotZero, StandsFirst, stands_at, stands_nowhere, is_only_string}
use Rattle.stringlist.proofs.Stands.{place-stands, only-exactly}
use Rattle.container.specs.Container.{ContainerType, short_type, long_type, ContainerCompatible, is_container_type, is_container_compatible}

abbrev short : List ℕ
short = bytes "cpu-features"

abbrev long : List ℕ
long = bytes "ibm,powerpc-cpu-features"

short-plain : Each NotZero short
short-plain = omega arith

long-plain : Each NotZero long
long-plain = omega arith

module _ (value : List ℕ) where
  pub type-exactly : (is_container_type value ≡ true) ↔ ContainerType value
  unfolding is_container_type
  type-exactly = (λ h. which (is_only_string value short) refl (is_only_string value long) refl h, back)
    where
      which : (d : Bool) → is_only_string value short ≡ d → (g : Bool) → is_only_string value long ≡ g → (d || g) ≡ true → ContainerType value
      which true e g k h = subst ContainerType (sym ((only-exactly value short short-plain).0 e)) short_type
      which false e true k h = subst ContainerType (sym ((only-exactly value long long-plain).0 k)) long_type
      which false e false k h = absurd (false≢true h)

      either : (d : Bool) → (d || true) ≡ true
      either true = refl
      either false = refl

      back : {v : List ℕ} → ContainerType v → (is_only_string v short || is_only_string v long) ≡ true
      back short_type = rw ((only-exactly (short ++ 0 ∷ []) short short-plain).1 refl)
      back long_type = rw ((only-exactly (long ++ 0 ∷ []) long long-plain).1 refl) (either (is_only_string (long ++ 0 ∷ []) short))

  pub compatible-exactly : (is_container_compatible value ≡ true) ↔ ContainerCompatible value
  unfolding is_container_compatible
  compatible-exactly = (λ h. there (place-stands value long) h, λ c. back c (place-stands value long))
    where
      there : {p : Option ℕ} → StandsFirst value long p → is_somewhere p ≡ true → ContainerCompatible value
      there (stands_at before after a n) h = record { before = before; after = after; strings = a }
      there (stands_nowhere n) h = absurd (false≢true h)

      back : ContainerCompatible value → {p : Option ℕ} → StandsFirst value long p → is_somewhere p ≡ true
      back c (stands_at before after a n) = refl
      back c (stands_nowhere n) = absurd (n c.before c.after c.strings)
