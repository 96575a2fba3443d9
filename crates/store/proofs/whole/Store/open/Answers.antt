use Rattle.store.proofs.Forming.{opened_state}
use Rattle.store.proofs.whole.Store.open.Goals as goal

pub returns : goal.returns
returns g c = λ s. opened_state g.H.Heap c.args.heap c.reset.new.heap c.size-size.result c.args.holds c.new.result c.of_all.result c.size-size.ensures c.reset.ensures.after c.reset.ensures.kept c.new.ensures.contents c.new.ensures.count c.of_all.ensures s
