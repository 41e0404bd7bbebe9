-- What decides the permitted set: own_code bits below the count, and neither `isa` nor any other cell that the rule does not name.
-- Own code permits at every level what is usable there. Assumes nothing.
use Rattle.std.specs.Prelude.{Option, None, Some}
use Prim.Native.Nat.{ℕ, ◌<◌, min}
use mathlib.Core.Path.{◌≡◌, refl, ap, ◌∙◌}
use mathlib.Core.Bool.{Bool, true, ◌&&◌, ◌||◌}
use native.Mathlib.Omega.{arith}
use lib.Dec.{leb}
use Rattle.positions.specs.Sets.{set_words, has, collect}
use Rattle.positions.proofs.SetLaws.{collect-same}
use Rattle.record.specs.Cells.{cell}
use Rattle.record.specs.Record.{most_features, feature_at}
use Rattle.record.specs.declared.Feature.{Feature}
use Rattle.record.specs.declared.Record.{Record}
use Rattle.record.specs.declared.Property.TheVariants.{UsablePrivilege, HvSupport, OsSupport, HfscrBitNr, FscrBitNr}
use Rattle.permitted.specs.Permitted.{is_usable, by_register, is_supported, is_supported_below, is_permitted, permitted_at, permitted_set, system, hypervisor}
use Rattle.permitted.specs.declared.Grants.{Grants}
use Rattle.permitted.proofs.PermittedLaws.{or-true, by_privilege}

-- two grants with the same own code for one position
pub record AgreeAt (g h : Grants) (i : ℕ) : Type 0 where
  pub hypervisor : has g.hypervisor.words i ≡ has h.hypervisor.words i
  pub system : has g.system.words i ≡ has h.system.words i

same-grants : (f : Feature) (level : ℕ) (g h : Grants) (i : ℕ) → AgreeAt g h i → g.hfscr ≡ h.hfscr → g.fscr ≡ h.fscr
    → is_permitted f level g i ≡ is_permitted f level h i
unfolding is_permitted
same-grants f level g h i a p q =
    λ k.
    by_privilege f level g i
    && is_supported_below hypervisor level (cell f HvSupport) (cell f HfscrBitNr) (p k) (a.hypervisor k)
    && is_supported_below system level (cell f OsSupport) (cell f FscrBitNr) (q k) (a.system k)

-- "Mask bits at or above the count are ignored in the first two."
pub only_below : (r : Record) (level : ℕ) (g h : Grants) → ((i : ℕ) → i < r.count → AgreeAt g h i) → g.hfscr ≡ h.hfscr → g.fscr ≡ h.fscr
    → permitted_set r level g ≡ permitted_set r level h
unfolding permitted_set
only_below r level g h a p q =
    collect-same set_words (min r.count most_features) (permitted_at r level g) (permitted_at r level h)
    (λ i l. same-grants (feature_at r i) level g h i (a i (omega arith)) p q)

-- the five cells that decide whether a feature is permitted
pub record SameCells (e f : Feature) : Type 0 where
  pub privilege : cell e UsablePrivilege ≡ cell f UsablePrivilege
  pub hv-support : cell e HvSupport ≡ cell f HvSupport
  pub os-support : cell e OsSupport ≡ cell f OsSupport
  pub hfscr : cell e HfscrBitNr ≡ cell f HfscrBitNr
  pub fscr : cell e FscrBitNr ≡ cell f FscrBitNr

pub same-cells : (e f : Feature) (level : ℕ) (g : Grants) (i : ℕ) → SameCells e f → is_permitted e level g i ≡ is_permitted f level g i
unfolding is_permitted
same-cells e f level g i s =
    λ k.
    is_usable (s.privilege k) level
    && is_supported_below hypervisor level (s.hv-support k) (s.hfscr k) g.hfscr (has g.hypervisor.words i)
    && is_supported_below system level (s.os-support k) (s.fscr k) g.fscr (has g.system.words i)

-- two records whose features agree in these have the same permitted set
pub permits-same : (r s : Record) (level : ℕ) (g : Grants) → r.count ≡ s.count → ((i : ℕ) → i < r.count → SameCells (feature_at r i) (feature_at s i))
    → permitted_set r level g ≡ permitted_set s level g
unfolding permitted_set
permits-same r s level g e a =
    collect-same set_words (min r.count most_features) (permitted_at r level g) (permitted_at s level g)
    (λ i l. same-cells (feature_at r i) (feature_at s i) level g i (a i (omega arith)))
    ∙ ap (λ (n : ℕ). collect set_words (min n most_features) (permitted_at s level g)) e

-- own code supports at any level, whatever the cells say
own-supports : (support number : Option ℕ) (mask : ℕ) → is_supported support number mask true ≡ true
own-supports None number mask = refl
own-supports (Some s) number mask = or-true (by_register s number mask)

own_below : (upper level : ℕ) (support number : Option ℕ) (mask : ℕ) (own : Bool) → own ≡ true → is_supported_below upper level support number mask own ≡ true
unfolding is_supported_below
own_below upper level support number mask own e =
    ap (λ (b : Bool). leb upper level || b) (ap (is_supported support number mask) e ∙ own-supports support number mask) ∙ or-true (leb upper level)

-- "or the hypervisor supports the feature by its own code", and the same of the system: both permit what is usable
pub own_code : (f : Feature) (level : ℕ) (g : Grants) (i : ℕ) → is_usable (cell f UsablePrivilege) level ≡ true → has g.hypervisor.words i ≡ true
    → has g.system.words i ≡ true → is_permitted f level g i ≡ true
unfolding is_permitted
own_code f level g i u h s =
    let a = own_below hypervisor level (cell f HvSupport) (cell f HfscrBitNr) g.hfscr (has g.hypervisor.words i) h in
    let b = own_below system level (cell f OsSupport) (cell f FscrBitNr) g.fscr (has g.system.words i) s in
    λ k. u k && a k && b k
