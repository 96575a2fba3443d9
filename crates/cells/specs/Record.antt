-- One cell, and what becomes of it.
use Rattle.std.specs.Prelude.{ℕ, Bool, true, false, cond, ◌==◌, Some, None, Ok, Err, Option, Result}
use Rattle.cells.specs.declared.content.Content.{Content}
use Rattle.cells.specs.declared.content.Content.TheVariants.{Nothing, Yarn, Cell}
use Rattle.cells.specs.declared.content.Joint.{Joint}
use Rattle.cells.specs.declared.content.Joint.TheVariants.{Beside, Above}
use Rattle.cells.specs.declared.content.UnknownJoint.{UnknownJoint}
use Rattle.cells.specs.declared.cell.Side.{Side}
use Rattle.cells.specs.declared.cell.Side.TheVariants.{Left, Right}
use Rattle.cells.specs.declared.cell.Tag.TheVariants.{Free}
use Rattle.cells.specs.declared.cell.MarkColour.{MarkColour}
use Rattle.cells.specs.declared.cell.MarkColour.TheVariants as mark
use Rattle.cells.specs.declared.cell.SweepColour.{SweepColour}
use Rattle.cells.specs.declared.cell.SweepColour.TheVariants as sweep
use Rattle.cells.specs.declared.cell.Colour.{Colour}
use Rattle.cells.specs.declared.cell.Colour.TheVariants.{Mark, Sweep}
use Rattle.cells.specs.declared.cell.LinkRecord.{LinkRecord}
use Rattle.cells.specs.declared.cell.CellRecord.{CellRecord}

-- the cell that a content names
abbrev pub cell_named : Content → Option ℕ
cell_named Nothing = None
cell_named (Yarn y) = None
cell_named (Cell i) = Some i

-- the letter of a joint: 98 `b`, 97 `a`
abbrev pub letter_of : Joint → ℕ
letter_of Beside = 98
letter_of Above = 97

-- the joint of a letter
abbrev pub joint_by_letter : ℕ → Result Joint UnknownJoint
joint_by_letter letter = cond (letter == 98) (Ok Beside) (cond (letter == 97) (Ok Above) (Err (record { letter = letter })))

-- what a new cell has besides its colours: free, joint `b`, both contents nothing
abbrev pub new_links : LinkRecord
new_links = record { joint = Beside; left = Nothing; right = Nothing; tag = Free }

-- a cell of a new heap: free, joint `b`, both contents nothing, both colours white
abbrev pub new_cell : CellRecord
new_cell = record { links = new_links; mark = mark.White; sweep = sweep.White }

-- what a cell contains on a side
abbrev pub content_on : CellRecord → Side → Content
content_on c Left = c.links.left
content_on c Right = c.links.right

-- a cell that is written: its colours stay
abbrev pub relinked_cell : CellRecord → LinkRecord → CellRecord
relinked_cell c links = record { links = links; mark = c.mark; sweep = c.sweep }

-- a cell that is painted: only the named colour changes
abbrev pub painted_cell : CellRecord → Colour → CellRecord
painted_cell c (Mark m) = record { links = c.links; mark = m; sweep = c.sweep }
painted_cell c (Sweep s) = record { links = c.links; mark = c.mark; sweep = s }

-- the mark colour that a sweep colour becomes at an exchange
abbrev pub as_mark : SweepColour → MarkColour
as_mark sweep.White = mark.White
as_mark sweep.Black = mark.Black

-- the sweep colour that a mark colour becomes at an exchange, which is refused while a cell is grey
abbrev pub as_sweep : MarkColour → SweepColour
as_sweep mark.White = sweep.White
as_sweep mark.Grey = sweep.White
as_sweep mark.Black = sweep.Black

-- a cell whose two colours have changed places
abbrev pub exchanged_cell : CellRecord → CellRecord
exchanged_cell c = record { links = c.links; mark = as_mark c.sweep; sweep = as_sweep c.mark }

abbrev pub is_grey : MarkColour → Bool
is_grey mark.White = false
is_grey mark.Grey = true
is_grey mark.Black = false

-- what a cell of this colour adds to the number of grey cells
abbrev pub grey_weight : MarkColour → ℕ
grey_weight m = cond (is_grey m) 1 0
