use Rattle.planes.proofs.Entire.{mark_beyond, mark_cells, mark_sound, sweep_beyond, sweep_cells, sweep_sound}
use Rattle.planes.proofs.heap.PlanesHeapHeap.paint.Goals as goal

pub returns-in-Mark-clause-after : goal.returns-in-Mark-clause-after
returns-in-Mark-clause-after c = λ _. mark_cells _ _ _ _ _ _ c.paint_mark.ensures c.in-Mark.is c.size.ensures c.in_ok-check_index.ensures

pub returns-in-Mark-clause-kept : goal.returns-in-Mark-clause-kept
returns-in-Mark-clause-kept c = mark_sound _ _ _ _ _ _ c.paint_mark.ensures c.in-Mark.is c.size.ensures c.in_ok-check_index.ensures

pub returns-in-Mark-clause-beyond : goal.returns-in-Mark-clause-beyond
returns-in-Mark-clause-beyond c = mark_beyond _ _ _ _ _ _ c.paint_mark.ensures c.in-Mark.is c.size.ensures c.in_ok-check_index.ensures

pub returns-in-Sweep-clause-after : goal.returns-in-Sweep-clause-after
returns-in-Sweep-clause-after c = λ _. sweep_cells _ _ _ _ _ _ c.paint_sweep.ensures c.in-Sweep.is c.size.ensures c.in_ok-check_index.ensures

pub returns-in-Sweep-clause-kept : goal.returns-in-Sweep-clause-kept
returns-in-Sweep-clause-kept c = sweep_sound _ _ _ _ _ _ c.paint_sweep.ensures c.in-Sweep.is c.size.ensures c.in_ok-check_index.ensures

pub returns-in-Sweep-clause-beyond : goal.returns-in-Sweep-clause-beyond
returns-in-Sweep-clause-beyond c = sweep_beyond _ _ _ _ _ _ c.paint_sweep.ensures c.in-Sweep.is c.size.ensures c.in_ok-check_index.ensures
