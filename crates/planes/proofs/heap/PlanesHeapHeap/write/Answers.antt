use Rattle.planes.proofs.Entire.{unwritten}
use Rattle.planes.proofs.heap.PlanesHeapHeap.write.Goals as goal

pub returns-in_err-check_write-clause-after : goal.returns-in_err-check_write-clause-after
returns-in_err-check_write-clause-after c = λ _. unwritten c.args.self.now c.size.result c.args.index c.args.links _ c.size.ensures c.in_err-check_write.ensures
