-- The lines and the text that the code makes from the two tables.
use Rattle.std.specs.Prelude.{ℕ, List, map, slice_index}
use Rattle.cells.specs.Cells.{Cells}
use Rattle.lines.specs.declared.cell.PatternCell.{PatternCell}
use Rattle.archive.specs.Pattern.{Pattern, cells_text, pattern_text}
use Rattle.numbering.specs.Lists.{count_from}
use Rattle.numbering.specs.Walk.{renamed}
use Rattle.saving.specs.Tables.{entry_for}

-- the file number of cell c, by the table
abbrev pub number_in : List ℕ → ℕ → ℕ
number_in numbers c = slice_index numbers (entry_for c)

-- the line of the cell with number k
abbrev pub line_in : Cells → List ℕ → List ℕ → ℕ → PatternCell
line_in cells numbers order k = record {
  joint = cells.joint (slice_index order k);
  left = renamed (number_in numbers) (cells.left (slice_index order k));
  right = renamed (number_in numbers) (cells.right (slice_index order k));
}

-- the first n lines
abbrev pub lines_in : Cells → List ℕ → List ℕ → ℕ → Pattern
lines_in cells numbers order n = map (line_in cells numbers order) (count_from 0 n)

-- the text of the first n lines alone
abbrev pub cells_in : Cells → List ℕ → List ℕ → ℕ → List ℕ
cells_in cells numbers order n = cells_text (lines_in cells numbers order n)

-- the whole text, where the pattern has n cells
abbrev pub text_in : Cells → List ℕ → List ℕ → ℕ → List ℕ
text_in cells numbers order n = pattern_text (lines_in cells numbers order n)
