use Rattle.std.proofs.Common.{◌≡◌, ◌≤◌}
use Rattle.cells.specs.Count.{grey_below}
use Rattle.tally.proofs.count.count_grey.Given as goal

abbrev pub invariant-loop-index : goal.invariant-loop-index
invariant-loop-index g l = (l.count ≤ l.index) × (g.H.Heap.sound l.heap → l.count ≡ grey_below (g.H.Heap.meaning l.heap).mark l.index)
