-- A numbered pattern as the code keeps it, and what is made from its tables.
use Rattle.std.specs.Prelude.{ℕ, List}
use Rattle.cells.specs.Cells.{Cells}
use Rattle.lines.specs.declared.cell.PatternCell.{PatternCell}
use Rattle.saving.specs.declared.writing.Numbered.{Numbered}
use Rattle.saving.specs.Tables.{Tables, tables}
use Rattle.saving.specs.Text.{cells_in, line_in, text_in}

-- the tables of a numbered pattern
abbrev pub tables_kept : {A : Type 0} → Numbered A → Tables
tables_kept p = tables p.count p.numbers.now p.order.now

-- by its tables: the line of the cell with number k, the text of the lines alone, the whole text
abbrev pub numbered_line : Cells → Tables → ℕ → PatternCell
numbered_line cells t k = line_in cells t.numbers t.order k

abbrev pub numbered_cells : Cells → Tables → List ℕ
numbered_cells cells t = cells_in cells t.numbers t.order t.count

abbrev pub numbered_text : Cells → Tables → List ℕ
numbered_text cells t = text_in cells t.numbers t.order t.count
