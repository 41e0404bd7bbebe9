-- Which features are permitted at a level under grants (document 01, "Permitted and enabled").
use Rattle.std.specs.Prelude.{ℕ, min, Bool, true, false, ◌&&◌, ◌||◌, List, leb, Option, None, Some}
use Rattle.positions.specs.Bits.{bit}
use Rattle.positions.specs.Sets.{set_words, has, collect}
use Rattle.record.specs.declared.Feature.{Feature}
use Rattle.record.specs.declared.Record.{Record}
use Rattle.record.specs.declared.Property.TheVariants.{UsablePrivilege, HvSupport, OsSupport, HfscrBitNr, FscrBitNr}
use Rattle.record.specs.Record.{most_features, feature_at}
use Rattle.record.specs.Cells.{cell}
use Rattle.permitted.specs.declared.Grants.{Grants}

-- 0 is user, 1 system, 2 hypervisor
abbrev pub system : ℕ
system = 1

abbrev pub hypervisor : ℕ
hypervisor = 2

-- "the level's bit in `usable-privilege` is set (bit 0 user, 1 system, 2 hypervisor)"
abbrev pub is_usable : Option ℕ → ℕ → Bool
is_usable None level = false
is_usable (Some privilege) level = bit privilege level

-- the bit of a number that is given is granted
abbrev pub is_granted : ℕ → Option ℕ → Bool
is_granted mask None = false
is_granted mask (Some number) = bit mask number

-- "its bit 0 is set and its HFSCR bit granted"
unfoldable pub by_register : ℕ → Option ℕ → ℕ → Bool
by_register support number mask = bit support 0 && is_granted mask number

-- "`hv-support` is absent, or its bit 0 is set and its HFSCR bit granted, or the hypervisor supports the feature by its own code";
-- "the same of `os-support`, FSCR and the system"
abbrev pub is_supported : Option ℕ → Option ℕ → ℕ → Bool → Bool
is_supported None number mask own_code = true
is_supported (Some support) number mask own_code = by_register support number mask || own_code

-- asked below the level that gives the support: "below hypervisor" of the hypervisor, "at user" of the system
unfoldable pub is_supported_below : ℕ → ℕ → Option ℕ → Option ℕ → ℕ → Bool → Bool
is_supported_below upper level support number mask own_code = leb upper level || is_supported support number mask own_code

-- "A feature is permitted at a level when" all of these hold
unfoldable pub is_permitted : Feature → ℕ → Grants → ℕ → Bool
is_permitted f level g i =
    is_usable (cell f UsablePrivilege) level
    && is_supported_below hypervisor level (cell f HvSupport) (cell f HfscrBitNr) g.hfscr (has g.hypervisor.words i)
    && is_supported_below system level (cell f OsSupport) (cell f FscrBitNr) g.fscr (has g.system.words i)

abbrev pub permitted_at : Record → ℕ → Grants → ℕ → Bool
permitted_at r level g i = is_permitted (feature_at r i) level g i

-- the positions of the permitted features; a record has no more than 64
unfoldable pub permitted_set : Record → ℕ → Grants → List ℕ
permitted_set r level g = collect set_words (min r.count most_features) (permitted_at r level g)
