-- A records heap: its meaning, when it is sound, and its lent memory.
use Rattle.std.specs.Prelude.{◌≡◌, List, ◌++◌, length, drop, replicate}
use Rattle.std.specs.Borrow.{MutBor}
use Rattle.cells.specs.declared.cell.CellRecord.{CellRecord}
use Rattle.cells.specs.Calls.{Lawful}
use Rattle.cells.specs.Cells.{Cells}
use Rattle.cells.specs.Front.{cells_in, size_for}
use Rattle.cells.specs.Record.{new_cell}
use Rattle.records.specs.declared.heap.RecordsHeap.{RecordsHeap}

abbrev pub cells_of_records : RecordsHeap → Cells
cells_of_records h = cells_in h.cells.now

-- all contents in range
abbrev pub SoundRecords : RecordsHeap → Type 0
SoundRecords h = Lawful (cells_of_records h)

-- A call left the heap in the same memory, and changed no record beyond the size.
pub record SameBeyond (before after : RecordsHeap) : Type 0 where
  pub long : length after.cells.now ≡ length before.cells.now
  pub beyond : drop (size_for (length before.cells.now)) after.cells.now ≡ drop (size_for (length before.cells.now)) before.cells.now
  pub lender : after.cells.ghost_name ≡ before.cells.ghost_name

-- Making took this memory, and left new cells in front and beyond them the records that were there.
pub record MadeIn (memory : MutBor (List CellRecord)) (h : RecordsHeap) : Type 0 where
  pub records : h.cells.now ≡ replicate (size_for (length memory.now)) new_cell ++ drop (size_for (length memory.now)) memory.now
  pub lender : h.cells.ghost_name ≡ memory.ghost_name
