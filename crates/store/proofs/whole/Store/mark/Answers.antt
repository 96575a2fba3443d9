use Rattle.store.proofs.Marks.{mark_state, mark_told}
use Rattle.store.proofs.whole.Store.mark.Goals as goal

pub returns : goal.returns
returns g c = record {
  answer = λ a. mark_told g.H.Heap c.args.self.now c.trace-found.new.self c.trace-found.result a c.trace-found.ensures.rest (c.trace-found.ensures.found a) c.advance.result c.advance.ensures.answer;
  after = λ a. mark_state g.H.Heap c.args.self.now c.trace-found.new.self c.trace-found.result a c.trace-found.ensures.rest (c.trace-found.ensures.found a) c.advance.new.self (c.trace-found.ensures.cells a) c.advance.ensures.stage;
}
