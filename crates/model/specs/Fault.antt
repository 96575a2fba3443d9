-- What a refusal tells: its number in the table of refusals and, where a text was to be loaded, layer and line.
use Rattle.std.specs.Prelude.{ℕ}
use Rattle.archive.specs.Fault.{file_layer, file_line, file_number}
use Rattle.model.specs.declared.fault.LoadFault.{LoadFault}
use Rattle.model.specs.declared.fault.LoadFault.TheVariants.{OfFile, OfStore}
use Rattle.model.specs.declared.fault.LoadLayer.{LoadLayer}
use Rattle.model.specs.declared.fault.LoadLayer.TheVariants.{Text, Store}
use Rattle.model.specs.declared.fault.OpenFault.{OpenFault}
use Rattle.model.specs.declared.fault.OpenFault.TheVariants.{NoCells, HoldCount}
use Rattle.model.specs.declared.fault.StoreFault.{StoreFault}
use Rattle.model.specs.declared.fault.StoreFault.TheVariants.{NoHold, NoCellHeld, YarnRange, NoJoint, NoCell, TooEarly, FewCells, ShortBuffer, ShortTable}

abbrev pub open_number : OpenFault → ℕ
open_number NoCells = 1
open_number HoldCount = 2

abbrev pub store_number : StoreFault → ℕ
store_number NoHold = 3
store_number NoCellHeld = 4
store_number YarnRange = 5
store_number NoJoint = 6
store_number (NoCell units) = 7
store_number TooEarly = 8
store_number FewCells = 15
store_number ShortBuffer = 16
store_number ShortTable = 17

abbrev pub load_number : LoadFault → ℕ
load_number (OfFile fault) = file_number fault
load_number (OfStore fault) = store_number fault

abbrev pub load_layer : LoadFault → LoadLayer
load_layer (OfFile fault) = Text (file_layer fault)
load_layer (OfStore fault) = Store

-- counted from 1; a fault of the store has line 0
abbrev pub load_line : LoadFault → ℕ
load_line (OfFile fault) = file_line fault
load_line (OfStore fault) = 0
