use Rattle.std.proofs.Common.{ap, ◌∙◌}
use Rattle.cells.specs.Record.{content_on}
use Rattle.store.proofs.Hands.{follow_state, side_of}
use Rattle.store.proofs.whole.Store.follow_cell.Goals as goal

pub returns : goal.returns
returns g c = λ lh li cell a. follow_state g.H.Heap c.args.self.now a c.shade.new.heap c.set.new.self c.args.hold c.args.cell c.args.side c.args.into c.content_on-content.result lh li cell (λ s. c.content_on-content.ensures ∙ ap (λ r. content_on r c.args.side) (c.look.ensures s) ∙ side_of (g.H.Heap.meaning c.args.self.now.heap) c.args.side c.args.cell) c.shade.ensures.after c.shade.ensures.kept (record { contents = c.set.ensures.contents; count = c.set.ensures.count })
