use Rattle.std.proofs.Common.{refl}
use Rattle.store.proofs.Marks.{blackened_found}
use Rattle.store.proofs.whole.Store.mark_cell.Goals as goal

pub returns-in-Some : goal.returns-in-Some
returns-in-Some g c = record {
  found = λ a. c.in-Some.ensures a.heap;
  cells = λ a. blackened_found g.H.Heap c.args.self.now c.blacken.new.heap c.args.from c.in-Some.cell a (c.in-Some.ensures a.heap) c.blacken.ensures.after c.blacken.ensures.kept;
  rest = refl;
}
