-- Laws of permitted features, one for each return of the code. Assumes nothing.
use Rattle.std.specs.Prelude.{Option, None, Some}
use Prim.Native.Nat.{ℕ, ◌+◌, ◌≤◌, ◌<◌, min}
use mathlib.Core.Path.{◌≡◌, refl, sym, ap, ◌∙◌}
use mathlib.Core.Bool.{Bool, true, false, ◌&&◌, ◌||◌, cond}
use mathlib.Core.List.{List}
use native.Mathlib.Numerals.{add-one}
use native.Mathlib.Omega.{arith}
use borrow.Author.Tests.{leb-true, not-true}
use lib.Dec.{leb}
use Rattle.positions.proofs.BelowLaws.{no_way}
use Rattle.positions.specs.Bits.{bit}
use Rattle.positions.specs.Sets.{set_words, room, has, collect, set_of, no_members, with_member}
use Rattle.positions.proofs.SetLaws.{collect-more}
use Rattle.positions.proofs.MemberLaws.{insert-collect}
use Rattle.positions.proofs.SetCodeLaws.{zero-words}
use Rattle.record.specs.Cells.{bit_of, held, when_given, cell, low_bit}
use Rattle.record.specs.Record.{most_features, highest_hfscr_bit, highest_fscr_bit}
use Rattle.form.specs.WellFormed.{bit_fits, bits_fit}
use Rattle.form.proofs.BitLaws.{fits-hypervisor, fits-system}
use Rattle.record.specs.declared.Record.{Record}
use Rattle.record.specs.declared.Feature.{Feature}
use Rattle.record.specs.declared.Property.TheVariants.{UsablePrivilege, HvSupport, OsSupport, HfscrBitNr, FscrBitNr}
use Rattle.permitted.specs.Permitted.{system, hypervisor, is_usable, by_register, is_supported, is_supported_below, is_permitted, permitted_at, permitted_set}
use Rattle.permitted.specs.declared.Grants.{Grants}

pub or-true : (b : Bool) → b || true ≡ true
or-true true = refl
or-true false = refl

-- a number that fits is in range where it is required, and its being given makes no difference
number_fits : (highest : ℕ) (required given : Bool) (n : ℕ) → bit_fits highest required (when_given given n) ≡ true → required ≡ true → n ≤ highest
number_fits highest required true n e q = leb-true n highest e
number_fits highest true false n e q = no_way false e refl
number_fits highest false false n e q = no_way false q refl

register-same : (highest s : ℕ) (given : Bool) (n mask : ℕ) → bit_fits highest (bit s 0) (when_given given n) ≡ true
    → by_register s (Some n) mask ≡ by_register s (when_given given n) mask
unfolding by_register
register-same highest s true n mask e = refl
register-same highest s false n mask e = rw (not-true (bit s 0) e)

supported-same : (highest : ℕ) (support : Option ℕ) (given : Bool) (n mask : ℕ) (own : Bool) → bit_fits highest (low_bit support) (when_given given n) ≡ true
    → is_supported support (Some n) mask own ≡ is_supported support (when_given given n) mask own
supported-same highest None given n mask own e = refl
supported-same highest (Some s) given n mask own e = ap (λ (b : Bool). b || own) (register-same highest s given n mask e)

-- the tests of a feature, by way of the code's locals
pub usable-by : (level : ℕ) {u : Bool} {a x : Option ℕ} → u ≡ is_usable a level → a ≡ x → u ≡ is_usable x level
usable-by level e p = e ∙ ap (λ (y : Option ℕ). is_usable y level) p

-- the two registers' numbers of a feature whose bit numbers fit
module _ (f : Feature) (fits : bits_fit f ≡ true) where
  pub hv-number : {a : Option ℕ} → a ≡ cell f HvSupport → low_bit a ≡ true → f.hfscr_bit_nr < 64
  unfolding cell held bit_of
  hv-number e q = let h = number_fits highest_hfscr_bit _ (bit f.given 4) f.hfscr_bit_nr (fits-hypervisor f fits) (ap low_bit (sym e) ∙ q) in omega arith

  pub os-number : {a : Option ℕ} → a ≡ cell f OsSupport → low_bit a ≡ true → f.fscr_bit_nr < 64
  unfolding cell held bit_of
  os-number e q = let h = number_fits highest_fscr_bit _ (bit f.given 5) f.fscr_bit_nr (fits-system f fits) (ap low_bit (sym e) ∙ q) in omega arith

  module _ (upper level mask : ℕ) (own : Bool) {u : Bool} {a : Option ℕ} where
    pub hv-supported : u ≡ is_supported_below upper level a (Some f.hfscr_bit_nr) mask own → a ≡ cell f HvSupport
        → u ≡ is_supported_below upper level (cell f HvSupport) (cell f HfscrBitNr) mask own
    unfolding is_supported_below cell held bit_of
    hv-supported q e =
        q
        ∙ ap (λ (x : Option ℕ). leb upper level || is_supported x (Some f.hfscr_bit_nr) mask own) e
        ∙ ap (λ (b : Bool). leb upper level || b) (supported-same highest_hfscr_bit (cell f HvSupport) (bit f.given 4) f.hfscr_bit_nr mask own (fits-hypervisor f fits))

    pub os-supported : u ≡ is_supported_below upper level a (Some f.fscr_bit_nr) mask own → a ≡ cell f OsSupport
        → u ≡ is_supported_below upper level (cell f OsSupport) (cell f FscrBitNr) mask own
    unfolding is_supported_below cell held bit_of
    os-supported q e =
        q
        ∙ ap (λ (x : Option ℕ). leb upper level || is_supported x (Some f.fscr_bit_nr) mask own) e
        ∙ ap (λ (b : Bool). leb upper level || b) (supported-same highest_fscr_bit (cell f OsSupport) (bit f.given 5) f.fscr_bit_nr mask own (fits-system f fits))

-- the first test that fails decides; the last one where the others hold
module _ (f : Feature) (level : ℕ) (g : Grants) (i : ℕ) where
  abbrev pub by_privilege : Bool
  by_privilege = is_usable (cell f UsablePrivilege) level

  abbrev by_hypervisor : Bool
  by_hypervisor = is_supported_below hypervisor level (cell f HvSupport) (cell f HfscrBitNr) g.hfscr (has g.hypervisor.words i)

  abbrev by_system : Bool
  by_system = is_supported_below system level (cell f OsSupport) (cell f FscrBitNr) g.fscr (has g.system.words i)

  -- the first two tests, of which the second is made where the first holds
  pub both-tests : {u b : Bool} → u ≡ by_privilege → u ≡ true → b ≡ by_hypervisor → b ≡ by_privilege && by_hypervisor
  both-tests p q h = h ∙ sym (ap (λ (x : Bool). x && by_hypervisor) (sym p ∙ q))

  pub first-fails : {u b : Bool} → u ≡ by_privilege → u ≡ false → b ≡ u → b ≡ by_privilege && by_hypervisor
  first-fails p q e = e ∙ q ∙ sym (ap (λ (x : Bool). x && by_hypervisor) (sym p ∙ q))

  pub system-decides : {b s : Bool} → b ≡ by_privilege && by_hypervisor → b ≡ true → s ≡ by_system → s ≡ is_permitted f level g i
  unfolding is_permitted
  system-decides e q s = s ∙ sym (ap (λ (x : Bool). x && by_system) (sym e ∙ q))

  pub tests-fail : {b : Bool} → b ≡ by_privilege && by_hypervisor → b ≡ false → b ≡ is_permitted f level g i
  unfolding is_permitted
  tests-fail e q = q ∙ sym (ap (λ (x : Bool). x && by_system) (sym e ∙ q))

-- a set built a position at a time, by a test
module _ (p : ℕ → Bool) where
  pub none_yet : {s : List ℕ} → s ≡ set_of no_members → s ≡ collect set_words 0 p
  unfolding collect
  none_yet e = e ∙ sym zero-words

  one_more : (i : ℕ) {s : List ℕ} → s ≡ collect set_words i p → i < room → p i ≡ true → with_member s i ≡ collect set_words (i + 1) p
  one_more i e h q = ap (λ (l : List ℕ). with_member l i) e ∙ insert-collect i p h q ∙ rw (add-one i)

  no_more : (i : ℕ) {s : List ℕ} → s ≡ collect set_words i p → p i ≡ false → s ≡ collect set_words (i + 1) p
  no_more i e q = e ∙ rw q at (collect-more set_words i p)

  pub next : (i : ℕ) {s : List ℕ} {on : Bool} → s ≡ collect set_words i p → i < room → on ≡ p i → cond on (with_member s i) s ≡ collect set_words (i + 1) p
  next i {on = true} e h q = one_more i e h (sym q)
  next i {on = false} e h q = no_more i e (sym q)

pub set-is-permitted : (r : Record) (level : ℕ) (g : Grants) {i : ℕ} {s : List ℕ} → s ≡ collect set_words i (permitted_at r level g)
    → i ≡ min r.count most_features → s ≡ permitted_set r level g
unfolding permitted_set
set-is-permitted r level g e h = e ∙ ap (λ (n : ℕ). collect set_words n (permitted_at r level g)) h
