use Rattle.std.proofs.Common.{arith}
use Rattle.store.proofs.Units.{hunt_more}
use Rattle.store.proofs.whole.Store.hunt.Goals as goal

pub loop-units-preserved : goal.loop-units-preserved
loop-units-preserved g c = λ a. hunt_more g.H.Heap c.args.self.now c.loop-units.self c.args.limit c.loop-units.units (c.loop-units.invariant a) c.unit.new.self (omega arith) c.if-not-is_empty.ensures c.unit.ensures
