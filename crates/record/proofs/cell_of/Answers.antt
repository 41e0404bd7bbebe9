-- `record::cell_of` meets its contract. Assumes nothing.
use Rattle.record.specs.Cells.{bit_of, held}
use Rattle.record.proofs.CellLaws.{cell-is}
use Rattle.record.proofs.cell_of.Goals as goal

pub returns-in-Isa : goal.returns-in-Isa
unfolding bit_of held
returns-in-Isa c = cell-is _ c.when_given.ensures c.in-Isa.is

pub returns-in-UsablePrivilege : goal.returns-in-UsablePrivilege
unfolding bit_of held
returns-in-UsablePrivilege c = cell-is _ c.when_given-in-UsablePrivilege.ensures c.in-UsablePrivilege.is

pub returns-in-HvSupport : goal.returns-in-HvSupport
unfolding bit_of held
returns-in-HvSupport c = cell-is _ c.when_given-in-HvSupport.ensures c.in-HvSupport.is

pub returns-in-OsSupport : goal.returns-in-OsSupport
unfolding bit_of held
returns-in-OsSupport c = cell-is _ c.when_given-in-OsSupport.ensures c.in-OsSupport.is

pub returns-in-HfscrBitNr : goal.returns-in-HfscrBitNr
unfolding bit_of held
returns-in-HfscrBitNr c = cell-is _ c.when_given-in-HfscrBitNr.ensures c.in-HfscrBitNr.is

pub returns-in-FscrBitNr : goal.returns-in-FscrBitNr
unfolding bit_of held
returns-in-FscrBitNr c = cell-is _ c.when_given-in-FscrBitNr.ensures c.in-FscrBitNr.is

pub returns-in-HwcapBitNr : goal.returns-in-HwcapBitNr
unfolding bit_of held
returns-in-HwcapBitNr c = cell-is _ c.when_given-in-HwcapBitNr.ensures c.in-HwcapBitNr.is

pub returns-in-Phandle : goal.returns-in-Phandle
unfolding bit_of held
returns-in-Phandle c = cell-is _ c.when_given-in-Phandle.ensures c.in-Phandle.is

pub returns-in-Dependencies : goal.returns-in-Dependencies
unfolding bit_of held
returns-in-Dependencies c = cell-is _ c.when_given-in-Dependencies.ensures c.in-Dependencies.is
