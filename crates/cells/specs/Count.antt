-- How many cells are grey.
use Rattle.std.specs.Prelude.{ℕ, zero, suc, ◌+◌}
use Rattle.cells.specs.declared.cell.MarkColour.{MarkColour}
use Rattle.cells.specs.Cells.{Cells}
use Rattle.cells.specs.Record.{grey_weight}

-- of the colours below n
abbrev pub grey_below : (ℕ → MarkColour) → ℕ → ℕ
grey_below marks zero = 0
grey_below marks (suc n) = grey_below marks n + grey_weight (marks n)

abbrev pub grey_count : Cells → ℕ
grey_count c = grey_below c.mark c.size
