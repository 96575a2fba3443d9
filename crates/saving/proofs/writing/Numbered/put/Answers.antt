use Rattle.saving.proofs.Texts.{text_put}
use Rattle.saving.proofs.writing.Numbered.put.Goals as goal

pub returns : goal.returns
returns g c = λ s.
    text_put (g.H.Heap.meaning c.args.self.now.heap.now) c.args.self.now.numbers.now c.args.self.now.order.now c.args.self.now.count _ _ _ _
    c.write_header.ensures.puts (c.put_cells.ensures s) c.write_end.ensures.puts
