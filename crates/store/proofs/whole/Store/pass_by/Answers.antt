use Rattle.store.proofs.Sweeps.{pass_state}
use Rattle.store.proofs.whole.Store.pass_by.Goals as goal

pub returns : goal.returns
returns g c = λ below stays a. pass_state g.H.Heap c.args.self.now a c.whiten.new.heap _ below stays c.whiten.ensures.after c.whiten.ensures.kept c.saturating_add-self.ensures
