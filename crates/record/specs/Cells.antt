-- The one view of a feature's cells: "Absent and zero differ" (document 01, "The feature record").
use Rattle.std.specs.Prelude.{ℕ, ◌+◌, ◌*◌, Bool, true, false, List, [], ◌∷◌, map, Option, None, Some}
use Rattle.positions.specs.Bits.{bit}
use Rattle.positions.specs.Below.{one_if}
use Rattle.record.specs.declared.Feature.{Feature}
use Rattle.record.specs.declared.Property.{Property}
use Rattle.record.specs.declared.Property.TheVariants.{Isa, UsablePrivilege, HvSupport, OsSupport, HfscrBitNr, FscrBitNr, HwcapBitNr, Phandle, Dependencies}

-- the bit of a property in the word `given`
unfoldable pub bit_of : Property → ℕ
bit_of Isa = 0
bit_of UsablePrivilege = 1
bit_of HvSupport = 2
bit_of OsSupport = 3
bit_of HfscrBitNr = 4
bit_of FscrBitNr = 5
bit_of HwcapBitNr = 6
bit_of Phandle = 7
bit_of Dependencies = 8

-- what a feature holds for a property, given or not
unfoldable pub held : Feature → Property → ℕ
held f Isa = f.isa
held f UsablePrivilege = f.usable_privilege
held f HvSupport = f.hv_support
held f OsSupport = f.os_support
held f HfscrBitNr = f.hfscr_bit_nr
held f FscrBitNr = f.fscr_bit_nr
held f HwcapBitNr = f.hwcap_bit_nr
held f Phandle = f.phandle
held f Dependencies = f.dependencies

abbrev pub when_given : Bool → ℕ → Option ℕ
when_given true n = Some n
when_given false n = None

-- "its cells as read and which properties were given"
unfoldable pub cell : Feature → Property → Option ℕ
cell f p = when_given (bit f.given (bit_of p)) (held f p)

-- bit 0 of a cell, where it is given: "Only bit 0 (HFSCR, FSCR) counts"
abbrev pub low_bit : Option ℕ → Bool
low_bit None = false
low_bit (Some n) = bit n 0

-- whether a cell is given
abbrev pub given_in : Option ℕ → Bool
given_in None = false
given_in (Some n) = true

-- the number of a cell; zero where it is absent
abbrev pub number_in : Option ℕ → ℕ
number_in None = 0
number_in (Some n) = n

-- how many dependencies a feature has
unfoldable pub dependency_count : Feature → ℕ
dependency_count f = number_in (cell f Dependencies)

-- the properties, "in this property order"
abbrev pub all_properties : List Property
all_properties =
    Isa ∷ UsablePrivilege ∷ HvSupport ∷ OsSupport ∷ HfscrBitNr ∷ FscrBitNr ∷ HwcapBitNr ∷ Phandle ∷ Dependencies ∷ []

-- the word of some bits, the first the lowest
unfoldable pub word_of_bits : List Bool → ℕ
word_of_bits [] = 0
word_of_bits (b ∷ bs) = one_if b + 2 * word_of_bits bs

-- "which properties were given": the bit of each is set where its cell is given
abbrev pub given_word : (Property → Option ℕ) → ℕ
given_word cells = word_of_bits (map (λ (p : Property). given_in (cells p)) all_properties)

-- the feature at an offset whose cells are these, zero where one is absent
unfoldable pub feature_with : ℕ → (Property → Option ℕ) → Feature
feature_with at cells = record {
  offset = at;
  given = given_word cells;
  isa = number_in (cells Isa);
  usable_privilege = number_in (cells UsablePrivilege);
  hv_support = number_in (cells HvSupport);
  os_support = number_in (cells OsSupport);
  hfscr_bit_nr = number_in (cells HfscrBitNr);
  fscr_bit_nr = number_in (cells FscrBitNr);
  hwcap_bit_nr = number_in (cells HwcapBitNr);
  phandle = number_in (cells Phandle);
  dependencies = number_in (cells Dependencies);
}
