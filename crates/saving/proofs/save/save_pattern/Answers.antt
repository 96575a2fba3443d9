use Rattle.saving.proofs.Whole.{saved}
use Rattle.saving.proofs.save.save_pattern.Goals as goal

pub returns : goal.returns
returns g c = λ s given.
    saved (g.H.Heap.meaning c.args.heap.now) c.args.first c.args.numbers.now c.args.order.now (g.H.Heap.lawful c.args.heap.now s) given
    c.number_cells-count.result c.number_cells-count.new.numbers c.number_cells-count.new.order
    c.args.buffer.now c.write.new.buffer c.write.result
    (c.number_cells-count.ensures s) (c.write.ensures.answer s) (c.write.ensures.after s)
