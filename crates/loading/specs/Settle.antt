-- The second pass of a load: the lines of a text become the cells that a table names.
use Rattle.std.specs.Prelude.{ℕ, ◌<◌, ◌≤◌, List, length, take, None, Ok, Err, Option, Result}
use Rattle.cells.specs.Cells.{Cells}
use Rattle.lines.specs.declared.cell.PatternCell.{PatternCell}
use Rattle.archive.specs.declared.fault.FileFault.{FileFault}
use Rattle.archive.specs.Pattern.{Pattern, among}
use Rattle.archive.specs.Reading.{Place, and_then, cells_from, due}
use Rattle.model.specs.Load.{loaded_cell}
use Rattle.model.specs.Take.{given_cells}
use Rattle.numbering.specs.Lists.{In, Once}

-- the line that a reader gave; none behind the last one, nor where the text is refused
abbrev pub line_given : Result (Option PatternCell) FileFault → Option PatternCell
line_given (Ok line) = line
line_given (Err fault) = None

-- the lines of the cells that are still due
abbrev pub lines_left : Place → Result Pattern FileFault
lines_left p = and_then (cells_from (due p) p) (λ lines. Ok lines.0)

-- A table suits a pattern: it names a cell for each line, no cell twice, and each of them exists.
pub record Suits (size : ℕ) (places : List ℕ) (pattern : Pattern) : Type 0 where
  pub room : length pattern ≤ length places
  pub once : Once (take (length pattern) places)
  pub inside : (i : ℕ) → In i (take (length pattern) places) → i < size

-- the cells once the pattern is made in these ones: file cell k is the k-th of them
abbrev pub settled_cells : Cells → ℕ → List ℕ → Pattern → Cells
settled_cells c place names pattern = given_cells c place (λ i. among i names) (loaded_cell names pattern)
