use Rattle.store.specs.View.{view}
use Rattle.store.proofs.Units.{work_more}
use Rattle.store.proofs.whole.Store.work.Goals as goal

pub loop-unit-preserved : goal.loop-unit-preserved
loop-unit-preserved g c = λ a. work_more g.H.Heap c.loop-unit.self c.unit.new.self (view g.H.Heap c.args.self.now) c.loop-unit._unit (c.loop-unit.invariant a) c.unit.ensures
