use Rattle.saving.specs.Tables.{walked_in}
use Rattle.saving.specs.Walk.{Becomes, tables_of}
use Rattle.saving.proofs.tables.Walk.go.Given as goal

-- the cells with smaller numbers are gone through
abbrev pub invariant-loop-number : goal.invariant-loop-number
invariant-loop-number g l =
    g.H.Heap.sound l.heap → Becomes l.initial.self l.self (walked_in (g.H.Heap.meaning l.heap) (tables_of l.initial.self) l.number)
