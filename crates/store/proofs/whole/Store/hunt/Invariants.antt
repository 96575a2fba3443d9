use Rattle.store.specs.View.{WellFormed}
use Rattle.store.proofs.Units.{Hunting}
use Rattle.store.proofs.whole.Store.hunt.Given as goal

abbrev pub invariant-loop-units : goal.invariant-loop-units
invariant-loop-units g l = WellFormed g.H.Heap l.initial.self → Hunting g.H.Heap l.initial.self l.self l.limit l.units
