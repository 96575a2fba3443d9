use Rattle.text.specs.Writer.{PutsInRoom}
use Rattle.saving.specs.Text.{cells_in}
use Rattle.saving.proofs.writing.Numbered.put_cells.Given as goal

-- if there is room for them, the lines so far are written
abbrev pub invariant-loop-number : goal.invariant-loop-number
invariant-loop-number g l =
    g.H.Heap.sound l.self.heap.now
    → PutsInRoom l.initial.writer (cells_in (g.H.Heap.meaning l.self.heap.now) l.self.numbers.now l.self.order.now l.number) l.writer
