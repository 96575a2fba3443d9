use Rattle.std.proofs.Common.{refl, ap, ◌∙◌}
use Rattle.std.specs.Option.{unwrap_or}
use Rattle.cells.specs.Record.{cell_named}
use Rattle.store.proofs.Hands.{cell_or, give_state}
use Rattle.store.proofs.whole.Store.give_front.Goals as goal

pub returns : goal.returns
returns g c = record {
  answer = refl;
  after = λ some fits a. give_state g.H.Heap c.args.self.now a c.give.new.heap c.set.new.self c.args.order c.unwrap_or-next.result c.drop_front.new.self c.content-left.result c.content-right.result some fits c.content-left.ensures c.content-right.ensures (λ s. c.unwrap_or-next.ensures ∙ ap (λ o. unwrap_or o 0) (c.cell.ensures ∙ ap (λ r. cell_named r.links.left) (c.look.ensures s)) ∙ cell_or ((g.H.Heap.meaning c.args.self.now.heap).left c.args.self.now.free.front)) c.drop_front.ensures c.give.ensures.after c.give.ensures.kept (record { contents = c.set.ensures.contents; count = c.set.ensures.count });
}
