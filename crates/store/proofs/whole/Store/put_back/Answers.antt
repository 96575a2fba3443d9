use Rattle.store.proofs.Sweeps.{put_back_state}
use Rattle.store.proofs.whole.Store.put_back.Goals as goal

pub returns : goal.returns
returns g c = λ below used white a. put_back_state g.H.Heap c.args.self.now a c.put_back.new.heap _ c.end.result c.push.new.self below used white c.put_back.ensures.after c.put_back.ensures.kept c.end.ensures c.push.ensures c.saturating_add-self.ensures
