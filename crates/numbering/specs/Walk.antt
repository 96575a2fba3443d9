-- Numbering the cells of a pattern: the first cell is 0; then, cell by cell in the order of the numbers and left before
-- right, each cell that is met for the first time gets the next number. In the field's words: a breadth-first walk.
use Rattle.std.specs.Prelude.{ℕ, zero, suc, cond, List, [], ◌∷◌, ◌++◌, map, length, ◌==◌, nat_lt, slice_index}
use Rattle.cells.specs.declared.content.Content.{Content}
use Rattle.cells.specs.declared.content.Content.TheVariants.{Nothing, Yarn, Cell}
use Rattle.cells.specs.Cells.{Cells}
use Rattle.lines.specs.declared.cell.PatternCell.{PatternCell}
use Rattle.archive.specs.Pattern.{Pattern, among}

-- The order of meeting is a list of cells: the cell with number 0 first.

-- the order once a content is met: a cell that is not in it yet comes behind its end
abbrev pub meets : List ℕ → Content → List ℕ
meets order Nothing = order
meets order (Yarn y) = order
meets order (Cell c) = cond (among c order) order (order ++ (c ∷ []))

-- the order once both contents of cell c are met
abbrev pub meets_both : Cells → List ℕ → ℕ → List ℕ
meets_both cells order c = meets (meets order (cells.left c)) (cells.right c)

-- the order once the contents of the cell with number k are met, if there is such a cell yet
abbrev pub meets_line : Cells → ℕ → List ℕ → List ℕ
meets_line cells k order = cond (nat_lt k (length order)) (meets_both cells order (slice_index order k)) order

-- the order once the cells with the numbers below k are gone through
abbrev pub order_after : Cells → List ℕ → ℕ → List ℕ
order_after cells start zero = start
order_after cells start (suc k) = meets_line cells k (order_after cells start k)

-- the order of all cells reached from `first`. No pattern has more cells than there are, so the size is enough.
abbrev pub order_from : Cells → ℕ → List ℕ
order_from cells first = order_after cells (first ∷ []) cells.size

-- where c stands in a list
abbrev pub place : ℕ → List ℕ → ℕ
place c [] = 0
place c (x ∷ xs) = cond (c == x) 0 (suc (place c xs))

-- the file number of cell c, or 65,535 if it is none of these
abbrev pub number_of : List ℕ → ℕ → ℕ
number_of order c = cond (among c order) (place c order) 65535

-- a content that names another cell for each cell
abbrev pub renamed : (ℕ → ℕ) → Content → Content
renamed name Nothing = Nothing
renamed name (Yarn y) = Yarn y
renamed name (Cell c) = Cell (name c)

-- a line whose contents name another cell for each cell
abbrev pub renamed_line : (ℕ → ℕ) → PatternCell → PatternCell
renamed_line name line = record { joint = line.joint; left = renamed name line.left; right = renamed name line.right }

-- cell c as a line of the file
abbrev pub line_of : Cells → List ℕ → ℕ → PatternCell
line_of cells order c = record { joint = cells.joint c; left = renamed (number_of order) (cells.left c); right = renamed (number_of order) (cells.right c) }

-- the pattern of the cells in an order
abbrev pub pattern_of : Cells → List ℕ → Pattern
pattern_of cells order = map (line_of cells order) order
