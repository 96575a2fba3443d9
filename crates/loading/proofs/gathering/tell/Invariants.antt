use Rattle.std.proofs.Common.{ℕ, List, length}
use Rattle.loading.specs.Gather.{Gathered, Listed}
use Rattle.loading.proofs.gathering.tell.Given as goal

-- the places so far tell the front of the list
abbrev pub invariant-loop-place : goal.invariant-loop-place
invariant-loop-place g l = (free : List ℕ) → g.H.Heap.sound l.heap → Listed (g.H.Heap.meaning l.heap) free l.front (length l.initial.places) l.initial.places → Gathered free l.place-index l.initial.places l.places l.cell
