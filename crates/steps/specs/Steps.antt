-- What the steps of a store do to the cells of a heap. Each is a definition of the abstract store, or becomes one once the
-- end of the free list is known.
use Rattle.std.specs.Prelude.{ℕ, suc, cond, Some, None, Option, nat_lt}
use Rattle.cells.specs.declared.content.Content.{Content}
use Rattle.cells.specs.declared.content.Content.TheVariants.{Nothing, Yarn, Cell}
use Rattle.cells.specs.declared.content.Joint.TheVariants.{Beside}
use Rattle.cells.specs.declared.cell.Tag.TheVariants.{Free, Used}
use Rattle.cells.specs.declared.cell.MarkColour.TheVariants as mark
use Rattle.cells.specs.declared.cell.SweepColour.TheVariants as sweep
use Rattle.cells.specs.Calls.{InRange}
use Rattle.cells.specs.Cells.{Cells, changed_at}
use Rattle.lines.specs.declared.cell.PatternCell.{PatternCell}
use Rattle.shading.specs.Shading.{shaded, with_marks}
use Rattle.model.specs.Take.{new_sweep}

abbrev pub cells_shaded : Cells → Content → Cells
cells_shaded c x = with_marks c (shaded c.mark x)

abbrev pub cells_blackened : Cells → ℕ → Cells
cells_blackened c i = with_marks c (changed_at (shaded (shaded c.mark (c.left i)) (c.right i)) i mark.Black)

-- the left contents once the cell `last`, if there is one, names cell i
abbrev pub left_behind : Option ℕ → (ℕ → Content) → ℕ → ℕ → Content
left_behind None left i = left
left_behind (Some last) left i = changed_at left last (Cell i)

-- cell i becomes free, behind the cell `last` unless the list is empty
abbrev pub cells_freed : Cells → Option ℕ → ℕ → Cells
cells_freed c last i = record {
  size = c.size;
  joint = changed_at c.joint i Beside;
  left = changed_at (left_behind last c.left i) i Nothing;
  right = changed_at c.right i Nothing;
  tag = changed_at c.tag i Free;
  mark = c.mark;
  sweep = c.sweep;
}

-- among so many cells, both contents of a line are in range
abbrev pub LineFits : ℕ → PatternCell → Type 0
LineFits size line = InRange size line.left × InRange size line.right

-- cell i is used, with the joint and contents of this line, black for the marker and with the sweep colour of a new cell
abbrev pub cells_used : Cells → ℕ → PatternCell → ℕ → Cells
cells_used c i line place = record {
  size = c.size;
  joint = changed_at c.joint i line.joint;
  left = changed_at c.left i line.left;
  right = changed_at c.right i line.right;
  tag = changed_at c.tag i Used;
  mark = changed_at c.mark i mark.Black;
  sweep = changed_at c.sweep i (new_sweep place i);
}

-- the same once both contents are shaded
abbrev pub cells_given : Cells → ℕ → PatternCell → ℕ → Cells
cells_given c i line place = cells_used (cells_shaded (cells_shaded c line.left) line.right) i line place

-- cell i is free and white, with x as left
abbrev pub cells_renewed : Cells → ℕ → Content → Cells
cells_renewed c i x = record {
  size = c.size;
  joint = changed_at c.joint i Beside;
  left = changed_at c.left i x;
  right = changed_at c.right i Nothing;
  tag = changed_at c.tag i Free;
  mark = changed_at c.mark i mark.White;
  sweep = changed_at c.sweep i sweep.White;
}

-- the link of cell i among m free cells in rising order
abbrev pub link_of : ℕ → ℕ → Content
link_of m i = cond (nat_lt (suc i) m) (Cell (suc i)) Nothing

-- the cell that a content is, or 0
abbrev pub cell_in : Content → ℕ
cell_in Nothing = 0
cell_in (Yarn y) = 0
cell_in (Cell c) = c
