-- The count of grey cells and a paint.
use Rattle.std.specs.Prelude.{ℕ, ◌+◌, ◌-◌, min}
use Rattle.cells.specs.declared.cell.Colour.{Colour}
use Rattle.cells.specs.declared.cell.Colour.TheVariants.{Mark, Sweep}
use Rattle.cells.specs.Record.{grey_weight}

-- the count once a cell that counted `was` has the colour; no count is above the largest number
abbrev pub recount : ℕ → ℕ → Colour → ℕ
recount count was (Mark m) = min (count - was + grey_weight m) 4294967295
recount count was (Sweep s) = count
