-- The three bit numbers of a feature, as the code tests them. Assumes nothing.
use mathlib.Core.Path.{◌≡◌}
use mathlib.Core.Bool.{Bool, true, false, ◌&&◌}
use Rattle.positions.proofs.BelowLaws.{and_left, and_right}
use Rattle.record.specs.Record.{highest_hfscr_bit, highest_fscr_bit, highest_hwcap_bit}
use Rattle.record.specs.Cells.{cell, low_bit}
use Rattle.record.specs.declared.Feature.{Feature}
use Rattle.record.specs.declared.Property.TheVariants.{HvSupport, OsSupport, HfscrBitNr, FscrBitNr, HwcapBitNr}
use Rattle.form.specs.WellFormed.{bit_fits, bits_fit}

module _ (f : Feature) where
  -- the three tests of `bits_fit`
  abbrev pub hypervisor_fits : Bool
  hypervisor_fits = bit_fits highest_hfscr_bit (low_bit (cell f HvSupport)) (cell f HfscrBitNr)

  abbrev pub system_fits : Bool
  system_fits = bit_fits highest_fscr_bit (low_bit (cell f OsSupport)) (cell f FscrBitNr)

  abbrev pub capability_fits : Bool
  capability_fits = bit_fits highest_hwcap_bit false (cell f HwcapBitNr)

  -- each of them, where all hold
  module _ (e : bits_fit f ≡ true) where
    two : (hypervisor_fits && system_fits) ≡ true
    unfolding bits_fit
    two = and_left (hypervisor_fits && system_fits) capability_fits e

    pub fits-hypervisor : hypervisor_fits ≡ true
    fits-hypervisor = and_left hypervisor_fits system_fits two

    pub fits-system : system_fits ≡ true
    fits-system = and_right hypervisor_fits system_fits two

    pub fits-capability : capability_fits ≡ true
    unfolding bits_fit
    fits-capability = and_right (hypervisor_fits && system_fits) capability_fits e
