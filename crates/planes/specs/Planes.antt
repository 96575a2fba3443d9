-- Cells in records of links and three planes of bits.
use Rattle.std.specs.Prelude.{ℕ, ◌*◌, min, Bool, true, false, cond, length, nat_lt, slice_index_or}
use Rattle.cells.specs.declared.cell.MarkColour.{MarkColour}
use Rattle.cells.specs.declared.cell.MarkColour.TheVariants as mark
use Rattle.cells.specs.declared.cell.SweepColour.{SweepColour}
use Rattle.cells.specs.declared.cell.SweepColour.TheVariants as sweep
use Rattle.cells.specs.declared.cell.LinkRecord.{LinkRecord}
use Rattle.cells.specs.declared.cell.CellRecord.{CellRecord}
use Rattle.cells.specs.Cells.{Cells, cells_of}
use Rattle.cells.specs.Record.{new_cell, new_links}
use Rattle.planes.specs.declared.memory.PlanesMemory.{PlanesMemory}
use Rattle.planes.specs.Bits.{bit_at}

-- the bits of a colour

abbrev pub is_mark_black : MarkColour → Bool
is_mark_black mark.White = false
is_mark_black mark.Grey = false
is_mark_black mark.Black = true

abbrev pub is_sweep_black : SweepColour → Bool
is_sweep_black sweep.White = false
is_sweep_black sweep.Black = true

-- the colour of the bits

abbrev pub mark_of : Bool → Bool → MarkColour
mark_of grey black = cond grey mark.Grey (cond black mark.Black mark.White)

abbrev pub sweep_of : Bool → SweepColour
sweep_of black = cond black sweep.Black sweep.White

-- a cell from its record and its bits of the grey, the mark and the sweep plane
abbrev pub joined_cell : LinkRecord → Bool → Bool → Bool → CellRecord
joined_cell l g m s = record { links = l; mark = mark_of g m; sweep = sweep_of s }

-- cell i of a lent memory
abbrev pub cell_from : PlanesMemory → ℕ → CellRecord
cell_from m i = joined_cell (slice_index_or m.links.now i new_links) (bit_at m.grey.now i) (bit_at m.mark.now i) (bit_at m.sweep.now i)

-- a table of cells that is new from n on
abbrev pub clipped : ℕ → (ℕ → CellRecord) → ℕ → CellRecord
clipped n table i = cond (nat_lt i n) (table i) new_cell

-- the first n cells of a lent memory
abbrev pub planes_front : ℕ → PlanesMemory → Cells
planes_front n m = cells_of n (clipped n (cell_from m))

-- the smallest of the record count, eight times each plane's length, and 16,384
abbrev pub planes_size : PlanesMemory → ℕ
planes_size m = min (length m.links.now) (min (8 * length m.grey.now) (min (min (8 * length m.mark.now) (8 * length m.sweep.now)) 16384))

-- what a lent memory means
abbrev pub planes_cells : PlanesMemory → Cells
planes_cells m = planes_front (planes_size m) m
