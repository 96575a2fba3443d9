-- What a save of a pattern asks for, and what it leaves in the memory that is lent to it.
use Rattle.std.specs.Prelude.{◌≡◌, ℕ, ◌<◌, ◌≤◌, List, ◌++◌, map, length, drop, Option}
use Rattle.text.specs.Buffer.{length_put, put}
use Rattle.cells.specs.Cells.{Cells}
use Rattle.archive.specs.Pattern.{pattern_text}
use Rattle.numbering.specs.Lists.{count_from}
use Rattle.numbering.specs.Walk.{number_of, order_from, pattern_of}

-- the text of the pattern whose first cell is `first`
abbrev pub saved_text : Cells → ℕ → List ℕ
saved_text cells first = pattern_text (pattern_of cells (order_from cells first))

-- there is such a cell, and the tables have an entry for each cell
pub record Savable (cells : Cells) (first : ℕ) (numbers order : List ℕ) : Type 0 where
  pub inside : first < cells.size
  pub numbers_fit : cells.size ≤ length numbers
  pub order_fits : cells.size ≤ length order

-- The pattern is saved: the lent buffer and tables were `buffer`, `numbers` and `order`, and now are those with a prime.
pub record Saved (cells : Cells) (first : ℕ) (buffer numbers order : List ℕ) (answer : ℕ × Option ℕ) (buffer' numbers' order' : List ℕ) : Type 0 where
  -- how many cells the pattern has, and how long its text is: none if the buffer is shorter
  pub answer_is : answer ≡ (length (order_from cells first), length_put buffer 0 (saved_text cells first))
  -- the text, wholly or not at all
  pub buffer_is : buffer' ≡ put buffer 0 (saved_text cells first)
  -- for each cell its file number, or 65,535 if it is none of the pattern's; further entries stay as they were
  pub numbers_are : numbers' ≡ map (number_of (order_from cells first)) (count_from 0 cells.size) ++ drop cells.size numbers
  -- the cells of the pattern in the order of their file numbers; further entries stay as they were
  pub order_is : order' ≡ order_from cells first ++ drop (length (order_from cells first)) order
