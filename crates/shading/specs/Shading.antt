-- What shading a content and blackening a cell do to the cells of a heap.
use Rattle.std.specs.Prelude.{Bool, true, false, cond, ℕ}
use Rattle.cells.specs.declared.content.Content.{Content}
use Rattle.cells.specs.declared.content.Content.TheVariants.{Nothing, Yarn, Cell}
use Rattle.cells.specs.declared.cell.MarkColour.{MarkColour}
use Rattle.cells.specs.declared.cell.MarkColour.TheVariants.{White, Grey, Black}
use Rattle.cells.specs.Cells.{Cells, changed_at}
use Rattle.cells.specs.Fault.{index_fault, unless_fault}

abbrev pub is_white : MarkColour → Bool
is_white White = true
is_white Grey = false
is_white Black = false

-- the cells with other mark colours
abbrev pub with_marks : Cells → (ℕ → MarkColour) → Cells
with_marks c marks = record { size = c.size; joint = c.joint; left = c.left; right = c.right; tag = c.tag; mark = marks; sweep = c.sweep }

-- the mark colours after a content was shaded: if it is a white cell, that cell is grey
abbrev pub shaded : (ℕ → MarkColour) → Content → ℕ → MarkColour
shaded marks Nothing = marks
shaded marks (Yarn y) = marks
shaded marks (Cell i) = cond (is_white (marks i)) (changed_at marks i Grey) marks

-- the same in a heap of so many cells: a cell that does not exist is not shaded
abbrev pub shaded_marks : ℕ → (ℕ → MarkColour) → Content → ℕ → MarkColour
shaded_marks size marks Nothing = marks
shaded_marks size marks (Yarn y) = marks
shaded_marks size marks (Cell i) = unless_fault (index_fault size i) (cond (is_white (marks i)) (changed_at marks i Grey) marks) marks

abbrev pub shaded_cells : Cells → Content → Cells
shaded_cells c content = with_marks c (shaded_marks c.size c.mark content)

-- the mark colours after cell i was blackened: its two contents are shaded, left first, and it is black
abbrev pub blackened_marks : Cells → ℕ → ℕ → MarkColour
blackened_marks c i = unless_fault (index_fault c.size i) (changed_at (shaded_marks c.size (shaded_marks c.size c.mark (c.left i)) (c.right i)) i Black) c.mark

abbrev pub blackened_cells : Cells → ℕ → Cells
blackened_cells c i = with_marks c (blackened_marks c i)
