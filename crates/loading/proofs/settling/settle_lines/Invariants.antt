use Rattle.std.proofs.Common.{◌≡◌, ℕ, List, Ok}
use Rattle.archive.specs.Pattern.{Pattern}
use Rattle.archive.specs.Reading.{opened, pattern_in, place_of}
use Rattle.loading.specs.Settle.{Suits}
use Rattle.loading.proofs.Planted.{Underway}
use Rattle.loading.proofs.settling.settle_lines.Given as goal

-- the heap stays sound, and as many lines are made as places were passed
abbrev pub invariant-loop-place : goal.invariant-loop-place
invariant-loop-place g l =
    (g.H.Heap.sound l.initial.heap → g.H.Heap.sound l.heap)
    × ((text : List ℕ) (pattern : Pattern) → g.H.Heap.sound l.initial.heap → Ok (place_of l.initial.reader) ≡ opened text → pattern_in text ≡ Ok pattern → Suits (g.H.Heap.meaning l.initial.heap).size l.places pattern
    → Underway (g.H.Heap.meaning l.initial.heap) l.sweep_place l.places pattern (g.H.Heap.meaning l.heap) l.place-index (place_of l.reader))
