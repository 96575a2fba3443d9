-- The text of joints, contents and lines as it is written.
use Rattle.std.specs.Prelude.{ℕ, List, [], ◌∷◌, ◌++◌, codes, decimal}
use Rattle.cells.specs.declared.content.Content.{Content}
use Rattle.cells.specs.declared.content.Content.TheVariants.{Nothing, Yarn, Cell}
use Rattle.cells.specs.declared.content.Joint.{Joint}
use Rattle.cells.specs.declared.content.Joint.TheVariants.{Beside, Above}
use Rattle.lines.specs.declared.cell.PatternCell.{PatternCell}
use Rattle.lines.specs.Line.{Fields, header, cell, end, body}

abbrev pub joint_text : Joint → List ℕ
joint_text Beside = codes "b"
joint_text Above = codes "a"

abbrev pub content_text : Content → List ℕ
content_text Nothing = codes "-"
content_text (Yarn y) = codes "y" ++ decimal y
content_text (Cell k) = codes "c" ++ decimal k

abbrev pub header_fields : ℕ → Fields
header_fields n = header (codes "1") (decimal n)

abbrev pub cell_fields : PatternCell → Fields
cell_fields c = cell (joint_text c.joint) (content_text c.left) (content_text c.right)

abbrev pub end_fields : ℕ → Fields
end_fields n = end (decimal n)

-- a line with its line end
abbrev pub line_text : Fields → List ℕ
line_text f = body f ++ (10 ∷ [])

-- a line of words and a count
abbrev pub counted_text : List ℕ → ℕ → List ℕ
counted_text words n = words ++ (decimal n ++ (10 ∷ []))
