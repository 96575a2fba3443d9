use Rattle.std.proofs.Common.{◌≡◌, ◌++◌, map, take, drop}
use Rattle.cells.specs.Record.{exchanged_cell}
use Rattle.records.proofs.heap.RecordsHeapHeap.exchange.Given as goal

abbrev pub invariant-loop-cell : goal.invariant-loop-cell
invariant-loop-cell l = l.cell-items ≡ map exchanged_cell (take l.cell-index l.initial.cell-items) ++ drop l.cell-index l.initial.cell-items
