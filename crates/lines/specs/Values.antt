-- The fields of a line as values. The letters are 45 `-`, 121 `y` and 99 `c`.
use Rattle.std.specs.Prelude.{ℕ, cond, List, [], ◌∷◌, length, Some, None, codes, Option, ◌==◌}
use Rattle.std.specs.Str.{bytes_eq}
use Rattle.text.specs.Number.{number_in}
use Rattle.cells.specs.declared.content.Content.{Content}
use Rattle.cells.specs.declared.content.Content.TheVariants.{Nothing, Yarn, Cell}
use Rattle.cells.specs.declared.content.Joint.{Joint}
use Rattle.cells.specs.declared.content.Joint.TheVariants.{Beside, Above}
use Rattle.cells.specs.declared.cell.LinkRecord.{LinkRecord}
use Rattle.cells.specs.declared.cell.Tag.TheVariants.{Used}
use Rattle.lines.specs.declared.cell.PatternCell.{PatternCell}
use Rattle.lines.specs.Line.{Fields, header, cell, end}

abbrev pub joint_in : List ℕ → Option Joint
joint_in text = cond (bytes_eq text (codes "b")) (Some Beside) (cond (bytes_eq text (codes "a")) (Some Above) None)

abbrev pub lettered : ℕ → Option ℕ → Option Content
lettered letter None = None
lettered letter (Some n) = cond (letter == 121) (Some (Yarn n)) (cond (letter == 99) (Some (Cell n)) None)

-- `-` with nothing behind it, or `y` or `c` with a number
abbrev pub by_letter : ℕ → List ℕ → Option Content
by_letter letter digits = cond (letter == 45) (cond (length digits == 0) (Some Nothing) None) (lettered letter (number_in digits))

abbrev pub content_in : List ℕ → Option Content
content_in [] = None
content_in (letter ∷ digits) = by_letter letter digits

-- go on with what is there
abbrev pub given : {X Y : Type 0} → Option X → (X → Option Y) → Option Y
given None more = None
given (Some x) more = more x

abbrev pub header_numbers : Fields → Option (ℕ × ℕ)
header_numbers (header version count) = given (number_in version) (λ v. given (number_in count) (λ n. Some (v, n)))
header_numbers (cell joint left right) = None
header_numbers (end count) = None

abbrev pub cell_values : Fields → Option PatternCell
cell_values (header version count) = None
cell_values (cell joint left right) =
    given (joint_in joint) (λ j. given (content_in left) (λ l. given (content_in right) (λ r. Some (record { joint = j; left = l; right = r }))))
cell_values (end count) = None

abbrev pub end_count : Fields → Option ℕ
end_count (header version count) = None
end_count (cell joint left right) = None
end_count (end count) = number_in count

-- the line of a cell with these links; the tag is in no line
abbrev pub linked_line : LinkRecord → PatternCell
linked_line links = record { joint = links.joint; left = links.left; right = links.right }

-- the links of a used cell with this line
abbrev pub used_links : PatternCell → LinkRecord
used_links line = record { joint = line.joint; left = line.left; right = line.right; tag = Used }
