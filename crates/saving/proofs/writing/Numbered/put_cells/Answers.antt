use Rattle.saving.proofs.Texts.{written_turn}
use Rattle.saving.proofs.writing.Numbered.put_cells.Goals as goal

pub loop-number-preserved : goal.loop-number-preserved
loop-number-preserved g c = λ s.
    written_turn (g.H.Heap.meaning c.args.self.now.heap.now) c.args.self.now.numbers.now c.args.self.now.order.now
    c.loop-number.number c.line.result _ _ _ (c.line.ensures s) (c.loop-number.invariant s) c.write_cell.ensures.puts
