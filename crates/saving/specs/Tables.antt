-- The two tables of a walk as the code keeps them: entries of 16 bits, and every step tests its index. An entry that is
-- not there reads as 0, and setting it changes nothing.
use Rattle.std.specs.Prelude.{ℕ, zero, suc, ◌+◌, min, cond, List, ◌++◌, length, drop, replicate, Some, None, Option, ◌==◌, nat_lt, slice_index, slice_set}
use Rattle.cells.specs.declared.content.Content.{Content}
use Rattle.cells.specs.declared.content.Content.TheVariants.{Nothing, Yarn, Cell}
use Rattle.cells.specs.Cells.{Cells}

-- how many cells are met; by cell, its number, or 65,535 if it is not met; by number, its cell
pub record Tables : Type 0 where
  pub count : ℕ
  pub numbers : List ℕ
  pub order : List ℕ

abbrev pub tables : ℕ → List ℕ → List ℕ → Tables
tables count numbers order = record { count = count; numbers = numbers; order = order }

-- the number of a cell as an entry; no store has so many cells that this changes it
abbrev pub entry_for : ℕ → ℕ
entry_for c = min c 65535

-- cell c gets the next number
abbrev pub entered_in : Tables → ℕ → Tables
entered_in t c = tables (min (t.count + 1) 65535) (slice_set t.numbers c t.count) (slice_set t.order t.count c)

-- cell c is met: if it has no number yet, it gets the next one
abbrev pub cell_met_in : Tables → ℕ → Tables
cell_met_in t c = cond (slice_index t.numbers c == 65535) (entered_in t c) t

-- a content is met
abbrev pub met_in : Tables → Content → Tables
met_in t Nothing = t
met_in t (Yarn y) = t
met_in t (Cell c) = cell_met_in t (entry_for c)

-- both contents of cell c are met, left before right
abbrev pub both_met_in : Cells → Tables → ℕ → Tables
both_met_in cells t c = met_in (met_in t (cells.left c)) (cells.right c)

-- both contents of the cell with number k are met
abbrev pub visited_in : Cells → Tables → ℕ → Tables
visited_in cells t k = both_met_in cells t (slice_index t.order k)

-- the cell with number k, if there is one yet
abbrev pub cell_at_in : Tables → ℕ → Option ℕ
cell_at_in t k = cond (nat_lt k t.count) (Some (slice_index t.order k)) None

-- the contents of the cell with number k are met, if there is such a cell yet
abbrev pub line_visited_in : Cells → ℕ → Tables → Tables
line_visited_in cells k t = cond (nat_lt k t.count) (visited_in cells t k) t

-- the cells with the numbers below k are gone through
abbrev pub walked_in : Cells → Tables → ℕ → Tables
walked_in cells t zero = t
walked_in cells t (suc k) = line_visited_in cells k (walked_in cells t k)

-- the first entries, one for each of `size` cells, say that no cell is met
abbrev pub cleared_in : List ℕ → ℕ → List ℕ
cleared_in numbers size = replicate (min (length numbers) size) 65535 ++ drop (min (length numbers) size) numbers

-- the tables of the whole pattern whose first cell is `first`
abbrev pub numbered_in : Cells → ℕ → List ℕ → List ℕ → Tables
numbered_in cells first numbers order =
    walked_in cells (met_in (tables 0 (cleared_in numbers cells.size) order) (Cell first)) cells.size
