use Rattle.steps.proofs.Opening.{Resetting}
use Rattle.steps.proofs.reset.Given as goal

abbrev pub invariant-loop-index : goal.invariant-loop-index
invariant-loop-index g l = g.H.Heap.sound l.initial.heap → Resetting g.H.Heap.meaning g.H.Heap.sound l.heap l.size l.index
