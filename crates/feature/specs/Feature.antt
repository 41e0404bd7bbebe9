-- A feature by the cells of its properties: the first refusal among them, in document 01's order, and the feature where there is none.
use Rattle.std.specs.Prelude.{ℕ, zero, suc, List, [], ◌∷◌, map, Option, None, Some, Result, Ok, Err}
use Rattle.refusal.specs.declared.Refusal.{Refusal}
use Rattle.refusal.specs.Refusal.{Outcome, answer, refuse, number_of, outcome_of}
use Rattle.record.specs.declared.Feature.{Feature}
use Rattle.record.specs.declared.Property.{Property}
use Rattle.record.specs.declared.Property.TheVariants.{Isa, UsablePrivilege, HvSupport, OsSupport, HfscrBitNr, FscrBitNr, HwcapBitNr, Phandle, Dependencies}
use Rattle.record.specs.Record.{no_feature}
use Rattle.record.specs.Cells.{all_properties, feature_with}
use Rattle.feature.specs.declared.CellRead.{CellRead}
use Rattle.feature.specs.declared.FeatureCells.{FeatureCells}

-- the property that an answer gives: a refused one has no cell
abbrev pub read_as : Result (Option ℕ) Refusal → CellRead
read_as (Ok cell) = record { refusal = None; cell = cell }
read_as (Err refusal) = record { refusal = Some refusal; cell = None }

-- what was read of a property
abbrev pub read_of : FeatureCells → Property → CellRead
read_of c Isa = c.isa
read_of c UsablePrivilege = c.support.usable_privilege
read_of c HvSupport = c.support.hv_support
read_of c OsSupport = c.support.os_support
read_of c HfscrBitNr = c.bits.hfscr_bit_nr
read_of c FscrBitNr = c.bits.fscr_bit_nr
read_of c HwcapBitNr = c.bits.hwcap_bit_nr
read_of c Phandle = c.phandle
read_of c Dependencies = c.dependencies

-- its cell: "Absent and zero differ"
abbrev pub cell_from : CellRead → Option ℕ
cell_from c = c.cell

abbrev pub cells_from : FeatureCells → Property → Option ℕ
cells_from c p = cell_from (read_of c p)

-- the first of two numbers that is a refusal, and of some
abbrev pub first_of : ℕ → ℕ → ℕ
first_of zero n = n
first_of (suc m) n = suc m

abbrev pub first_among : List ℕ → ℕ
first_among [] = 0
first_among (n ∷ ns) = first_of n (first_among ns)

-- the number of a property's refusal, 0 where there is none
abbrev pub refused_number : Option Refusal → ℕ
refused_number None = 0
refused_number (Some refusal) = number_of refusal

-- the numbers of the properties' refusals, "in this property order"
abbrev pub cell_numbers : FeatureCells → List ℕ
cell_numbers c = map (λ (p : Property). refused_number (read_of c p).refusal) all_properties

-- the number of the first refusal
abbrev pub refusal_of : FeatureCells → ℕ
refusal_of c = first_among (cell_numbers c)

-- the feature at an offset
abbrev pub feature_from : ℕ → FeatureCells → Feature
feature_from at c = feature_with at (cells_from c)

-- the refusal of this number, or the feature where there is none
abbrev pub feature_or : ℕ → Feature → Outcome Feature
feature_or zero f = answer f
feature_or (suc n) f = refuse no_feature (suc n)

-- the first refusal of the properties, or the feature
abbrev pub feature_read : ℕ → FeatureCells → Outcome Feature
feature_read at c = feature_or (refusal_of c) (feature_from at c)

-- what an answer says
abbrev pub feature_outcome : Result Feature Refusal → Outcome Feature
feature_outcome r = outcome_of (λ (f : Feature). f) no_feature r
