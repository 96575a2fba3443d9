-- Cells in the front of a lent memory of cell records.
use Rattle.std.specs.Prelude.{ℕ, min, List, length, take, slice_index_or}
use Rattle.cells.specs.declared.cell.CellRecord.{CellRecord}
use Rattle.cells.specs.Cells.{Cells, cells_of}
use Rattle.cells.specs.Record.{new_cell}

-- how many of n records are cells
abbrev pub size_for : ℕ → ℕ
size_for n = min n 16384

-- record i if it is one of the first n, else a new cell
abbrev pub front_at : ℕ → List CellRecord → ℕ → CellRecord
front_at n memory i = slice_index_or (take n memory) i new_cell

-- the first n records as cells
abbrev pub front_cells : ℕ → List CellRecord → Cells
front_cells n memory = cells_of n (front_at n memory)

-- what a memory of cell records means
abbrev pub cells_in : List CellRecord → Cells
cells_in memory = front_cells (size_for (length memory)) memory
