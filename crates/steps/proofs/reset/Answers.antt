use Rattle.std.proofs.Common.{ap, ◌∙◌, arith}
use Rattle.model.specs.State.{opened_cells}
use Rattle.steps.proofs.Opening.{reset_all}
use Rattle.steps.proofs.reset.Goals as goal

pub returns-clause-after : goal.returns-clause-after
returns-clause-after g c = λ s. reset_all _ _ g.H.Heap.lawful _ _ _ (omega arith) (c.loop-index.invariant s) ∙ ap opened_cells (c.size-size.ensures s)
