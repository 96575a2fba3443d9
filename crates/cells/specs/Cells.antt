-- The meaning of a heap: its size and, for every number, what the cell of that number holds.
use Rattle.std.specs.Prelude.{ℕ, cond, ◌==◌}
use Rattle.cells.specs.declared.content.Content.{Content}
use Rattle.cells.specs.declared.content.Content.TheVariants.{Nothing}
use Rattle.cells.specs.declared.content.Joint.{Joint}
use Rattle.cells.specs.declared.content.Joint.TheVariants.{Beside}
use Rattle.cells.specs.declared.cell.Tag.{Tag}
use Rattle.cells.specs.declared.cell.Tag.TheVariants.{Free}
use Rattle.cells.specs.declared.cell.MarkColour.{MarkColour}
use Rattle.cells.specs.declared.cell.MarkColour.TheVariants as mark
use Rattle.cells.specs.declared.cell.SweepColour.{SweepColour}
use Rattle.cells.specs.declared.cell.SweepColour.TheVariants as sweep
use Rattle.cells.specs.declared.cell.LinkRecord.{LinkRecord}
use Rattle.cells.specs.declared.cell.CellRecord.{CellRecord}

-- There is a cell of each number below the size. At the size and above every part is that of a new cell,
-- so two heaps mean the same exactly if these records are equal.
pub record Cells : Type 0 where
  pub size : ℕ
  pub joint : ℕ → Joint
  pub left : ℕ → Content
  pub right : ℕ → Content
  pub tag : ℕ → Tag
  pub mark : ℕ → MarkColour
  pub sweep : ℕ → SweepColour

-- all of cell i but its colours
abbrev pub links_at : Cells → ℕ → LinkRecord
links_at c i = record { joint = c.joint i; left = c.left i; right = c.right i; tag = c.tag i }

-- all of cell i
abbrev pub cell_at : Cells → ℕ → CellRecord
cell_at c i = record { links = links_at c i; mark = c.mark i; sweep = c.sweep i }

-- f with v at i
abbrev pub changed_at : {A : Type 0} → (ℕ → A) → ℕ → A → ℕ → A
changed_at f i v j = cond (j == i) v (f j)

-- size cells, cell i as the table has it
abbrev pub cells_of : ℕ → (ℕ → CellRecord) → Cells
cells_of size table = record { size = size; joint = λ i. (table i).links.joint; left = λ i. (table i).links.left; right = λ i. (table i).links.right; tag = λ i. (table i).links.tag; mark = λ i. (table i).mark; sweep = λ i. (table i).sweep }

-- the cells of a new heap
abbrev pub new_cells : ℕ → Cells
new_cells size = record { size = size; joint = λ _. Beside; left = λ _. Nothing; right = λ _. Nothing; tag = λ _. Free; mark = λ _. mark.White; sweep = λ _. sweep.White }
