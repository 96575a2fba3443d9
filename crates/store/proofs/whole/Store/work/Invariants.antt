use Rattle.model.specs.Collector.{after_units}
use Rattle.store.specs.View.{InState, WellFormed, view}
use Rattle.store.proofs.whole.Store.work.Given as goal

abbrev pub invariant-loop-unit : goal.invariant-loop-unit
invariant-loop-unit g l = WellFormed g.H.Heap l.initial.self → InState g.H.Heap l.self (after_units l._unit (view g.H.Heap l.initial.self))
