-- A mark in two parts: what it finds and does to the cells, and the step of the stage.
use Rattle.std.specs.Prelude.{ℕ, Some, None, Option}
use Rattle.cells.specs.Cells.{Cells}
use Rattle.model.specs.declared.stage.Stage.{Stage}
use Rattle.model.specs.declared.stage.Stage.TheVariants.{AtHold, AtCell, Ended}
use Rattle.model.specs.Collector.{next_grey}
use Rattle.model.specs.State.{State}
use Rattle.steps.specs.Steps.{cells_blackened, cells_shaded}

-- the grey cell that a mark finds; at a hold it looks for none
abbrev pub found_at : Cells → Stage → Option ℕ
found_at c (AtHold r) = None
found_at c (AtCell k) = next_grey c k
found_at c Ended = None

abbrev pub found_cells : Cells → Option ℕ → Cells
found_cells c None = c
found_cells c (Some i) = cells_blackened c i

-- the cells after a mark
abbrev pub marked_cells : State → Stage → Cells
marked_cells s (AtHold r) = cells_shaded s.cells (s.hold r)
marked_cells s (AtCell k) = found_cells s.cells (next_grey s.cells k)
marked_cells s Ended = s.cells
