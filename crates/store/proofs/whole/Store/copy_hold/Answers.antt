use Rattle.store.proofs.Hands.{copy_state}
use Rattle.store.proofs.whole.Store.copy_hold.Goals as goal

pub returns : goal.returns
returns g c = λ lh lf a. copy_state g.H.Heap c.args.self.now a c.shade.new.heap c.set.new.self c.args.hold c.args.from c.content-content.result lh lf c.content-content.ensures c.shade.ensures.after c.shade.ensures.kept (record { contents = c.set.ensures.contents; count = c.set.ensures.count })
